-- The texts of a command are written one after the other.
use Rattle.std.proofs.Common.{◌≡◌, ◌≢◌, ◌≤◌, ℕ, Bool, true, false, cond, List, [], ◌∷◌, ◌++◌, Option, Result, Ok, Err, inl, inr, refl, sym, ◌∙◌, ap, arith}
use Rattle.std.specs.Prelude.{◌||◌}
use Rattle.std.specs.Io.KnownBytes.{append_known}
use Rattle.std.specs.Result.{is_err}
use Rattle.cp_io.specs.declared.desk.Failed.{Failed}
use Rattle.cp_io.specs.declared.role.Role.{Role}
use Rattle.cp_io.specs.Roles.{same_role}
use Rattle.cp_io.specs.Port.{Port, Ports, AtRole, Writes}
use Rattle.cp_io.proofs.RoleCases.{role_cases, kept}
use Rattle.cp_io.proofs.Writing.{append_known-nil}
use Rattle.cp_roles.specs.Texts.{Written, write, text_of, is_written, texts_before, HaveGrown, HaveStopped, NothingGrew, OnlyWrites, WrittenSoFar, FailedToWrite}
use Rattle.cp_roles.proofs.RolesBound.{same_role-refl, same_role-apart}

-- a text behind others that aren't of its role
text-here : (ws after : List Written) (w : Written) → texts_before w.role ws ≡ ws → text_of (ws ++ w ∷ after) w.role ≡ w.text
text-here [] after w apart = rw (same_role-refl w.role) refl
text-here (v ∷ ws) after w apart = go (same_role v.role w.role) apart (text-here ws after w)
  where
    go : (t : Bool) → cond t [] (v ∷ texts_before w.role ws) ≡ v ∷ ws → (texts_before w.role ws ≡ ws → text_of (ws ++ w ∷ after) w.role ≡ w.text) → cond t v.text (text_of (ws ++ w ∷ after) w.role) ≡ w.text
    go true e more = cc
    go false e more = more (cc)

text-none : (ws : List Written) (role : Role) → texts_before role ws ≡ ws → text_of ws role ≡ []
text-none [] role apart = refl
text-none (v ∷ ws) role apart = go (same_role v.role role) apart (text-none ws role)
  where
    go : (t : Bool) → cond t [] (v ∷ texts_before role ws) ≡ v ∷ ws → (texts_before role ws ≡ ws → text_of ws role ≡ []) → cond t v.text (text_of ws role) ≡ []
    go true e more = cc
    go false e more = more (cc)

text-apart : (ws : List Written) (w : Written) (r : Role) → r ≢ w.role → text_of (ws ++ w ∷ []) r ≡ text_of ws r
text-apart [] w r apart = rw (same_role-apart w.role r (λ e. apart (sym e))) refl
text-apart (v ∷ ws) w r apart = ap (λ (rest : List ℕ). cond (same_role v.role r) v.text rest) (text-apart ws w r apart)

before-this : (ws after : List Written) (w : Written) → texts_before w.role ws ≡ ws → texts_before w.role (ws ++ w ∷ after) ≡ ws
before-this [] after w apart = rw (same_role-refl w.role) refl
before-this (v ∷ ws) after w apart = go (same_role v.role w.role) apart (before-this ws after w)
  where
    go : (t : Bool) → cond t [] (v ∷ texts_before w.role ws) ≡ v ∷ ws → (texts_before w.role ws ≡ ws → texts_before w.role (ws ++ w ∷ after) ≡ ws) → cond t [] (v ∷ texts_before w.role (ws ++ w ∷ after)) ≡ v ∷ ws
    go true e more = cc
    go false e more = ap (λ (rest : List Written). v ∷ rest) (more (cc))

listed-here : (ws after : List Written) (w : Written) → is_written (ws ++ w ∷ after) w.role ≡ true
listed-here [] after w = rw (same_role-refl w.role) refl
listed-here (v ∷ ws) after w = go (same_role v.role w.role) (listed-here ws after w)
  where
    go : (t : Bool) → is_written (ws ++ w ∷ after) w.role ≡ true → (t || is_written (ws ++ w ∷ after) w.role) ≡ true
    go true e = refl
    go false e = e

-- a role grew by a text behind others
grown-by : (ws : List Written) (role : Role) (text : List ℕ) (old mid new : Ports) → HaveGrown ws old mid → texts_before role ws ≡ ws
    → (new role).held ≡ append_known (mid role).held text → ((r : Role) → r ≢ role → (new r).held ≡ (mid r).held) → HaveGrown (ws ++ write role text ∷ []) old new
grown-by ws role text old mid new grown apart here others r = elim (role_cases r role) [
  | inl same ↦ rw (same, text-here ws [] (write role text) apart) (here ∙ ap (λ (h : Option (List ℕ)). append_known h text) (grown role ∙ ap (append_known (old role).held) (text-none ws role apart) ∙ append_known-nil (old role).held))
  | inr other ↦ rw (text-apart ws (write role text) r other) (others r other ∙ grown r)
]

-- what a text written changes of a port
module _ {T E : Type 0} {text : List ℕ} {result : Result T E} {role : Role} {old new : Ports} (m : AtRole role (Writes text result) old new) where
  write-only : OnlyWrites old new
  write-only = record {
    way = kept (λ (p : Port). p.way) (Writes text result) m (λ h. ap (λ (p : Port). p.way) h.rest);
    name = kept (λ (p : Port). p.name) (Writes text result) m (λ h. ap (λ (p : Port). p.name) h.rest);
    read_faults = kept (λ (p : Port). p.read_faults) (Writes text result) m (λ h. ap (λ (p : Port). p.read_faults) h.rest);
  }

  write-faults : (r : Role) → (old r).write_faults ≤ (new r).write_faults
  write-faults r = elim (role_cases r role) [
    | inl same ↦ rw same m.here.faults
    | inr other ↦ let e = ap (λ (p : Port). p.write_faults) (m.others r other) in omega arith
  ]

writes-then : (a b c : Ports) → OnlyWrites a b → OnlyWrites b c → OnlyWrites a c
writes-then a b c m n = record { way = λ r. n.way r ∙ m.way r; name = λ r. n.name r ∙ m.name r; read_faults = λ r. n.read_faults r ∙ m.read_faults r }

pub none-written : (ports : Ports) → WrittenSoFar [] ports ports
none-written ports = record {
  grown = λ r. sym (append_known-nil (ports r).held);
  rest = record { way = λ r. refl; name = λ r. refl; read_faults = λ r. refl };
  faults = λ r. omega arith;
}

-- A role to which nothing was written so far is written.
module _ (ws : List Written) (role : Role) (text : List ℕ) (old mid new : Ports) (so_far : WrittenSoFar ws old mid) (apart : texts_before role ws ≡ ws) where
  pub written-next : {T E : Type 0} (done : T) → AtRole role (Writes {T = T} {E = E} text (Ok done)) mid new → WrittenSoFar (ws ++ write role text ∷ []) old new
  written-next done m = record {
    grown = grown-by ws role text old mid new so_far.grown apart m.here.held (λ r other. ap (λ (p : Port). p.held) (m.others r other));
    rest = writes-then old mid new so_far.rest (write-only m);
    faults = λ r. let a = so_far.faults r in let b = write-faults m r in omega arith;
  }

  -- or a write of it fails
  pub write-failed : {T E : Type 0} (e : E) (after : List Written) → AtRole role (Writes {T = T} {E = E} text (Err e)) mid new → FailedToWrite (ws ++ write role text ∷ after) role old new
  write-failed e after m = record {
    listed = listed-here ws after (write role text);
    stopped = record {
      front = m.here.held.0;
      rest = m.here.held.1;
      is = text-here ws after (write role text) apart ∙ m.here.held.2;
      grown = rw (before-this ws after (write role text) apart) (grown-by ws role m.here.held.0 old mid new so_far.grown apart m.here.held.3 (λ r other. ap (λ (p : Port). p.held) (m.others r other)));
    };
    rest = writes-then old mid new so_far.rest (write-only m);
    rose = let a = so_far.faults role in let b = m.here.cause in omega arith;
  }

-- The same by whether the printer answers an error.
module _ (ws : List Written) (role : Role) (text : List ℕ) (old mid new : Ports) (so_far : WrittenSoFar ws old mid) (apart : texts_before role ws ≡ ws) where
  pub written-on : (result : Result (Unit {0}) Failed) → is_err result ≡ false → AtRole role (Writes text result) mid new → WrittenSoFar (ws ++ write role text ∷ []) old new
  written-on (Ok done) ok m = written-next ws role text old mid new so_far apart done m
  written-on (Err e) ok m = cc

  pub written-off : (result : Result (Unit {0}) Failed) → is_err result ≡ true → AtRole role (Writes text result) mid new → (after : List Written) → FailedToWrite (ws ++ write role text ∷ after) role old new
  written-off (Ok done) failed m after = cc
  written-off (Err e) failed m after = write-failed ws role text old mid new so_far apart e after m

-- nothing grew before
pub grown-since : (ws : List Written) (old mid new : Ports) → NothingGrew old mid → HaveGrown ws mid new → HaveGrown ws old new
grown-since ws old mid new none grown r = grown r ∙ ap (λ (h : Option (List ℕ)). append_known h (text_of ws r)) (none r)

pub stopped-since : (ws : List Written) (role : Role) (old mid new : Ports) → NothingGrew old mid → HaveStopped ws role mid new → HaveStopped ws role old new
stopped-since ws role old mid new none s = record { front = s.front; rest = s.rest; is = s.is; grown = grown-since (texts_before role ws ++ write role s.front ∷ []) old mid new none s.grown }
