use Rattle.std.proofs.Common.{◌≡◌, ◌∙◌, ◌+◌, ◌*◌, ◌/◌, ◌%◌, ℕ, Bool, List, Option, None, sym, subst, arith}
use Rattle.std.proofs.lemmas.Nat.{div-add-mod'}
use Rattle.cp_sweep.specs.Marks.{is_marked, is_set, marks_of, IsFirst}
use Rattle.cp_sweep.proofs.Bits.{marked-is, first-by, found-below, none-later, some-later}
use Rattle.cp_sweep.proofs.marks.Marks.first_from.Goals as goal

-- a search of the bits is one of the marks
by-bits : (bits : List ℕ) (marks : List Bool) (i : ℕ) (found : Option ℕ) → marks_of bits ≡ marks → IsFirst (is_set bits) i found → IsFirst (is_marked marks) i found
by-bits bits marks i found e f = subst (λ ms. IsFirst (is_marked ms) i found) e (first-by (is_marked (marks_of bits)) (is_set bits) (marked-is bits) i found f)

pub returns-then-is_some : goal.returns-then-is_some
returns-then-is_some c =
    let i = c.args.i in let bits = c.self.inside.bits in
    let place : 64 * (i / 64) + i % 64 ≡ i = omega (arith, div-add-mod' i 64) in
    by-bits bits c.args.self.now i c.first_within-found.result c.self.view_is
    (subst (λ n. IsFirst (is_set bits) n c.first_within-found.result) place
    (found-below (64 * (i / 64) + 64) (is_set bits) (64 * (i / 64) + i % 64) c.first_within-found.result (sym c.is_some.ensures ∙ c.if-is_some.true) c.first_within-found.ensures.first))

pub returns-in_err-word : goal.returns-in_err-word
returns-in_err-word c =
    let i = c.args.i in let bits = c.self.inside.bits in
    subst (IsFirst (is_marked c.args.self.now) i) (sym c.from_residual.ensures)
    (by-bits bits c.args.self.now i None c.self.view_is
    (none-later bits c.self.inside.filled c.self.invariant i c.first_within-found.result (sym c.is_some.ensures ∙ c.if-is_some.false) c.first_within-found.ensures.first
    c.in_err-word.ensures))

pub returns : goal.returns
returns c =
    let i = c.args.i in let bits = c.self.inside.bits in
    by-bits bits c.args.self.now i c.first_within.result c.self.view_is
    (some-later bits c.self.inside.filled c.self.invariant i c.first_within-found.result (sym c.is_some.ensures ∙ c.if-is_some.false) c.first_within-found.ensures.first
    c.in_ok-word.word c.first_within.result c.in_ok-word.ensures c.first_within.ensures.first c.first_within.ensures.nothing)
