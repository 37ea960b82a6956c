-- A search that gives nothing gives nothing by any rules of the same choice and bound, whatever the number of the next new clause.
use Rattle.std.proofs.Common.{◌≡◌, ℕ, Bool, true, false, List, Option, Some, None, refl, sym, ◌∙◌, ap}
use Rattle.std.specs.Prelude.{◌&&◌}
use Rattle.std.proofs.Math.Bool.{beq}
use Rattle.std.proofs.lemmas.Bool.{and_parts, false≢true}
use Rattle.cp_logic.specs.declared.named.Named.{Named}
use Rattle.cp_logic.specs.declared.settings.Choice.{Choice}
use Rattle.cp_logic.specs.declared.settings.Rules.{Rules}
use Rattle.cp_logic.specs.Entries.{Entry}
use Rattle.cp_logic.specs.Legality.{is_chosen, fits, applies, first_in}
use Rattle.cp_logic.proofs.Complete.{nothing-missed}

same-applies : (cs : List Named) (rules given : Rules) (e : Entry) → rules.choice ≡ given.choice → rules.bound ≡ given.bound → applies cs given e ≡ applies cs rules e
same-applies cs rules given e choice bound =
    sym (ap (λ z. is_chosen z e && fits cs rules.bound e) choice ∙ ap (λ z. is_chosen given.choice e && fits cs z e) bound)

pub silent-by : (x : ℕ) (cs : List Named) (given : Rules) (n : ℕ) → first_in cs given n x ≡ None
    → (rules : Rules) → rules.choice ≡ given.choice → rules.bound ≡ given.bound → (next : ℕ) → first_in cs rules next x ≡ None
silent-by x cs given n none rules choice bound next = go (first_in cs rules next x) refl
  where
    go : (o : Option Entry) → first_in cs rules next x ≡ o → o ≡ None
    go None h = refl
    go (Some e) h =
        let r = (nothing-missed cs rules next x).0 e h in
        absurd ((nothing-missed cs given n x).1 none e r.0 (same-applies cs rules given e choice bound ∙ r.1))

-- choices that compare as equal are the same
same-flag : (a b : Bool) → beq a b ≡ true → a ≡ b
same-flag true true h = refl
same-flag true false h = absurd (false≢true h)
same-flag false true h = absurd (false≢true h)
same-flag false false h = refl

abbrev choice : (t s x b e : Bool) → Choice
choice t s x b e = record { t = t; s = s; x = x; b = b; e = e }

pub same-choice : (a b : Choice) → (beq a.t b.t && (beq a.s b.s && (beq a.x b.x && (beq a.b b.b && beq a.e b.e)))) ≡ true → a ≡ b
same-choice a b h =
    let t = and_parts (beq a.t b.t) (beq a.s b.s && (beq a.x b.x && (beq a.b b.b && beq a.e b.e))) h in
    let s = and_parts (beq a.s b.s) (beq a.x b.x && (beq a.b b.b && beq a.e b.e)) t.1 in
    let x = and_parts (beq a.x b.x) (beq a.b b.b && beq a.e b.e) s.1 in
    let u = and_parts (beq a.b b.b) (beq a.e b.e) x.1 in
    let same_t : a.t ≡ b.t = same-flag a.t b.t t.0 in
    let same_s : a.s ≡ b.s = same-flag a.s b.s s.0 in
    let same_x : a.x ≡ b.x = same-flag a.x b.x x.0 in
    let same_b : a.b ≡ b.b = same-flag a.b b.b u.0 in
    let same_e : a.e ≡ b.e = same-flag a.e b.e u.1 in
    let same : choice a.t a.s a.x a.b a.e ≡ choice b.t b.s b.x b.b b.e = cc in
    same
