use Rattle.std.proofs.Common.{◌∙◌, sym, refl, inl, inr}
use Rattle.std.proofs.lemmas.Bool.{false≢true, not-true}
use Rattle.cp_logic.specs.declared.named.Named.{Named}
use Rattle.cp_logic.specs.Entries.{Taut, Subsume, Strengthen, Block}
use Rattle.cp_find.proofs.Past.{past-after, no_new}
use Rattle.cp_find.proofs.reached.Reached.follow.Goals as goal
use Rattle.cp_find.proofs.reached.Reached.follow.Goals.{in-Strengthen, in-Eliminate, in-Eliminate-2, in-Taut, in-Taut-2, in-Taut-3}

pub returns-then-not-keeps : goal.returns-then-not-keeps
returns-then-not-keeps c = λ cs next p. c.restart.ensures c.args.var _

pub returns-else-not-keeps : goal.returns-else-not-keeps
returns-else-not-keeps c = λ cs next p.
    let x = c.args.var in let r = c.args.self.now in
    elim c.match-entry.branch [
      | in-Strengthen w ↦
          let s = w.in-Strengthen in let new : Named = record { number = next; clause = s.new.clause } in
          rw s.is (past-after x cs r (Strengthen s.by s.on s.lit new)
          (no_new x new (sym w.has_variable.ensures ∙ not-true w.has_variable.result (sym w.keeps-is ∙ c.if-not-keeps.false))) p)
      | in-Eliminate w ↦ absurd (false≢true (sym w.keeps-is ∙ c.if-not-keeps.false))
      | in-Eliminate-2 w ↦ absurd (false≢true (sym w.keeps-is ∙ c.if-not-keeps.false))
      | in-Taut w ↦ elim w.in-Taut.is [
        | inl q ↦ rw q.1 (past-after x cs r (Taut q.0) refl p)
        | inr k ↦ elim k [ inl q ↦ rw q.2 (past-after x cs r (Subsume q.0 q.1) refl p) | inr q ↦ rw q.2 (past-after x cs r (Block q.0 q.1) refl p) ]
      ]
      | in-Taut-2 w ↦ elim w.in-Taut.is [
        | inl q ↦ rw q.1 (past-after x cs r (Taut q.0) refl p)
        | inr k ↦ elim k [ inl q ↦ rw q.2 (past-after x cs r (Subsume q.0 q.1) refl p) | inr q ↦ rw q.2 (past-after x cs r (Block q.0 q.1) refl p) ]
      ]
      | in-Taut-3 w ↦ elim w.in-Taut.is [
        | inl q ↦ rw q.1 (past-after x cs r (Taut q.0) refl p)
        | inr k ↦ elim k [ inl q ↦ rw q.2 (past-after x cs r (Subsume q.0 q.1) refl p) | inr q ↦ rw q.2 (past-after x cs r (Block q.0 q.1) refl p) ]
      ]
    ]
