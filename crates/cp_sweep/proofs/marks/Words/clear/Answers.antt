use Rattle.std.proofs.Common.{◌≡◌, ℕ, ◌<◌, ◌*◌, ◌/◌, ◌%◌, ◌^◌, length, set, sym, ap, ◌∙◌, arith, bit_and, w64}
use Rattle.std.specs.Int.{bit_not}
use Rattle.std.proofs.lemmas.List.{get_or_default}
use Rattle.cp_sweep.specs.Marks.{is_set}
use Rattle.cp_sweep.proofs.Bits.{clear-bits}
use Rattle.cp_sweep.proofs.marks.Words.clear.Goals as goal

pub returns-clause-bits : goal.returns-clause-bits
returns-clause-bits c = λ k.
    let ws = c.self.inside.words.items in let i = c.args.i in
    let long : length ws ≡ length c.args.self.now = ap length c.self.view_is in
    let within : i / 64 < length ws = omega (arith, c.requires) in
    ap (λ (w : ℕ). is_set (set ws (i / 64) (bit_and w (bit_not w64 (1 * 2 ^ (i % 64) % 2 ^ 64)))) k) (c.index_mut.ensures.value ∙ get_or_default ws (i / 64) c.index_mut.result.now 0 within)
    ∙ rw (sym c.self.view_is) (clear-bits ws i within k)
