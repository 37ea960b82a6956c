-- The steps of a run of `extend`: its roles are bound, its inputs are read, and the model is written.
use Rattle.std.proofs.Common.{◌≡◌, ℕ, Bool, true, false, List, [], Option, Result, Ok, Err, inr, refl, sym, ◌∙◌, ap, subst}
use Rattle.std.specs.Prelude.{IfSome}
use Rattle.std.specs.Result.{is_err}
use Rattle.cp_io.specs.declared.desk.Failed.{Failed}
use Rattle.cp_io.specs.declared.role.Role.{Role}
use Rattle.cp_io.specs.declared.role.Role.TheVariants.{Stack, Model, Full}
use Rattle.cp_io.specs.Port.{Port, Ports, AtRole, Writes}
use Rattle.cp_io.proofs.RoleCases.{kept}
use Rattle.cp_logic.specs.declared.pairs.Stack.{Stack as HeldStack}
use Rattle.cp_logic.specs.Assignments.{completed}
use Rattle.cp_logic.specs.Journals.{Post}
use Rattle.cp_logic.specs.Pairs.{pairs_of}
use Rattle.cp_extend.specs.ModelText.{model_text}
use Rattle.cp_words.specs.Words.{Extend, extend_options}
use Rattle.cp_top.specs.declared.outcome.Outcome.TheVariants.{Refused}
use Rattle.cp_roles.specs.declared.refusal.Refusal.{Refusal}
use Rattle.cp_roles.specs.declared.refusal.Refusal.TheVariants.{Usage, OpenFault, ReadFault, TooLarge, BadInput, BadStack, BadModel, NoModel, WriteFault, NoMemory}
use Rattle.cp_roles.specs.Options.{Taken}
use Rattle.cp_top.specs.Run.{AreBound}
use Rattle.cp_roles.specs.Bindings.{binding_of, JustBound, BoundSoFar}
use Rattle.cp_roles.specs.Texts.{NothingGrew, HaveGrown, HaveStopped}
use Rattle.cp_roles.specs.Commands.{extend_bindings}
use Rattle.cp_top.specs.Commands.{extend_texts}
use Rattle.cp_roles.specs.Input.{StackReads, ModelReads, ModelAnswer, ReadsStack, ReadsModel}
use Rattle.cp_stack.specs.Reads.{stack_of}
use Rattle.cp_top.specs.Extension.{ReadsBoth, PrintsFull, PrintsFullFront}
use Rattle.cp_roles.proofs.lemmas.TextsWritten.{none-written, written-on, written-off, grown-since, stopped-since}

-- Both inputs are read, and the model is completed and written.
module _ (old p1 p2 p3 new : Ports) (o : Extend) (s : HeldStack) (values full : List Bool) (bound : BoundSoFar (extend_bindings o) old p1)
    (rs : AtRole Stack (ReadsStack (Ok s)) p1 p2) (rm : AtRole Model (ReadsModel s.vars (Ok values)) p2 p3)
    (is : full ≡ completed values (pairs_of s.pairs)) (r : Result (Unit {0}) Failed) (w : AtRole Full (Writes (model_text full) r) p3 new) where
  model_left : (p2 Model).left ≡ (old Model).left
  model_left = ap (λ (p : Port). p.left) (rs.others Model (λ e. cc)) ∙ bound.rest.left Model

  pub reads_both : ReadsBoth old
  reads_both = record {
    stack = stack_of s;
    pairs = subst (λ (o : Option (List ℕ)). StackReads o (Ok (stack_of s))) (bound.rest.left Stack) rs.here.answer.says;
    values = values;
    model = subst (λ (o : Option (List ℕ)). ModelReads s.vars o (Ok values)) model_left rm.here.answer.says;
  }

  held_before : NothingGrew old p3
  held_before role = kept (λ (p : Port). p.held) (ReadsModel s.vars (Ok values)) rm (λ h. ap (λ (p : Port). p.held) h.only.rest) role
      ∙ kept (λ (p : Port). p.held) (ReadsStack (Ok s)) rs (λ h. ap (λ (p : Port). p.held) h.only.rest) role ∙ bound.rest.held role

  texts_are : extend_texts full ≡ extend_texts (completed values (pairs_of s.pairs))
  texts_are = ap extend_texts is

  pub prints_full : is_err r ≡ false → PrintsFull old new
  unfolding reads_both
  prints_full ok = record {
    both = reads_both;
    texts = grown-since (extend_texts (completed values (pairs_of s.pairs))) old p3 new held_before
        (subst (λ ws. HaveGrown ws p3 new) texts_are (written-on [] Full (model_text full) p3 p3 new (none-written p3) refl r ok w).grown);
  }

  pub prints_full_front : (posts : List Post) → posts ≡ [] → is_err r ≡ true → PrintsFullFront old new Full posts
  unfolding reads_both
  prints_full_front posts none failed = record {
    both = reads_both;
    texts = stopped-since (extend_texts (completed values (pairs_of s.pairs))) Full old p3 new held_before
        (subst (λ ws. HaveStopped ws Full p3 new) texts_are (written-off [] Full (model_text full) p3 p3 new (none-written p3) refl r failed w []).stopped);
    no_posts = none;
  }

-- the stack is read, and the model is refused: the roles stay bound
module _ (words : List (List ℕ)) (old p1 p2 p3 : Ports) (o : Extend) (taken : extend_options words ≡ Ok o) (s : HeldStack) (bound : BoundSoFar (extend_bindings o) old p1)
    (rs : AtRole Stack (ReadsStack (Ok s)) p1 p2) (refusal : Refusal) (rm : AtRole Model (ReadsModel s.vars (Err refusal)) p2 p3) where
  same-way : (role : Role) → (p3 role).way ≡ (p1 role).way
  same-way role = kept (λ (p : Port). p.way) (ReadsModel s.vars (Err refusal)) rm (λ h. ap (λ (p : Port). p.way) h.only.rest) role ∙ kept (λ (p : Port). p.way) (ReadsStack (Ok s)) rs (λ h. ap (λ (p : Port). p.way) h.only.rest) role

  same-name : (role : Role) → (p3 role).name ≡ (p1 role).name
  same-name role = kept (λ (p : Port). p.name) (ReadsModel s.vars (Err refusal)) rm (λ h. ap (λ (p : Port). p.name) h.only.rest) role ∙ kept (λ (p : Port). p.name) (ReadsStack (Ok s)) rs (λ h. ap (λ (p : Port). p.name) h.only.rest) role

  still-bound : Taken (extend_options words) (λ o'. JustBound (extend_bindings o') p3)
  still-bound = (
    o,
    taken,
    record {
      ways = λ role. same-way role ∙ bound.bound.ways role;
      names = λ role. subst (λ n. IfSome n (λ told. IfSome (binding_of (extend_bindings o) role) (λ b. told ≡ b.name))) (sym (same-name role)) (bound.bound.names role);
    },
  )

  answered : ModelAnswer s.vars (Err refusal) (p2 Model) (p3 Model)
  answered = rm.here.answer

bound-after : (words : List (List ℕ)) (variables : ℕ) (a b : Port) (p : Ports) (refusal : Refusal) → ModelAnswer variables (Err refusal) a b → Taken (extend_options words) (λ o'. JustBound (extend_bindings o') p)
    → AreBound (extend_options words) extend_bindings p (Refused refusal)
bound-after words variables a b p (Usage kind) h t = absurd h
bound-after words variables a b p (OpenFault role) h t = absurd h
bound-after words variables a b p NoMemory h t = inr t
bound-after words variables a b p (ReadFault role) h t = t
bound-after words variables a b p (TooLarge role limit offset) h t = t
bound-after words variables a b p (BadInput offset kind) h t = t
bound-after words variables a b p (BadStack offset kind) h t = t
bound-after words variables a b p (BadModel offset kind) h t = t
bound-after words variables a b p NoModel h t = t
bound-after words variables a b p (WriteFault role journal) h t = t

pub model-refused-bound : (words : List (List ℕ)) (old p1 p2 p3 : Ports) (o : Extend) → extend_options words ≡ Ok o → (s : HeldStack) → BoundSoFar (extend_bindings o) old p1
    → AtRole Stack (ReadsStack (Ok s)) p1 p2 → (refusal : Refusal) → AtRole Model (ReadsModel s.vars (Err refusal)) p2 p3 → AreBound (extend_options words) extend_bindings p3 (Refused refusal)
model-refused-bound words old p1 p2 p3 o taken s bound rs refusal rm =
    bound-after words s.vars (p2 Model) (p3 Model) p3 refusal (answered words old p1 p2 p3 o taken s bound rs refusal rm) (still-bound words old p1 p2 p3 o taken s bound rs refusal rm)
