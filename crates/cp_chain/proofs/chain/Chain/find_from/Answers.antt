use Rattle.std.proofs.Common.{inl, inr, arith}
use Rattle.std.proofs.lemmas.Bool.{cases_lt}
use Rattle.cp_chain.proofs.chain.Chain.find_from.Goals as goal

pub returns-clause-none : goal.returns-clause-none
returns-clause-none g c = λ k l.
    elim (cases_lt k c.loop-at.at) [
      | inl before ↦ c.loop-at.invariant k l before
      | inr past ↦ let at-end = c.loop-at-test.false in c.slots-at-end.ensures.past k (omega arith)
    ]
