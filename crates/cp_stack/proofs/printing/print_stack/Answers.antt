use Rattle.std.proofs.Common.{◌≡◌, ◌<◌, ◌≤◌, List, length, drop, get_or, ap, subst}
use Rattle.std.specs.List.{flat_map}
use Rattle.std.proofs.Math.ListN.{drop_of_length-le}
use Rattle.cp_io.specs.declared.role.Role.TheVariants.{Stack}
use Rattle.cp_io.specs.Prints.{Prints}
use Rattle.cp_io.proofs.Printing.{Prints-finish}
use Rattle.cp_logic.specs.declared.pairs.Pair.{Pair}
use Rattle.cp_logic.specs.Pairs.{pair_of, pairs_of}
use Rattle.cp_stack.specs.Text.{header_text, pair_text, stack_text}
use Rattle.cp_io.proofs.PrintsUpTo.{Prints-whole}
use Rattle.cp_stack.proofs.Pieces.{Prints-next, stack_text-held}
use Rattle.cp_stack.proofs.printing.print_stack.Goals as goal

pub loop-pair-init : goal.loop-pair-init
loop-pair-init g c =
    let s = c.args.stack.now in
    let header = rw (c.as_slice-pairs.ensures, c.new-buffer.ensures) at c.put_header.ensures.prints in
    record {
      prints = (header_text s.vars (length s.pairs.items), header, stack_text-held s.vars s.pairs);
      bound = c.put_header.ensures.bound;
    }

pub loop-pair-preserved : goal.loop-pair-preserved
loop-pair-preserved g c =
    let s = c.args.stack.now in
    let i = c.loop-pair.pair-index in
    let low : i < length s.pairs.items = subst (λ (ps : List Pair). i < length ps) c.as_slice-pairs.ensures c.loop-pair-test.true in
    let here : c.pair-item.result ≡ get_or s.pairs.items i c.pair-item.result =
    subst (λ (ps : List Pair). c.pair-item.result ≡ get_or ps i c.pair-item.result) c.as_slice-pairs.ensures c.pair-item.is in
    record {
      prints = Prints-next (λ (p : Pair). pair_text (pair_of p)) (stack_text s.vars (pairs_of s.pairs)) s.pairs.items i c.pair-item.result low c.loop-pair.invariant.prints
          (subst (λ (p : Pair). Prints Stack (pair_text (pair_of p)) c.loop-pair.buffer (g.D.Desk.port c.loop-pair.desk) c.put_pair.new.buffer (g.D.Desk.port c.put_pair.new.desk)) here c.put_pair.ensures.prints);
      bound = c.put_pair.ensures.bound;
    }

pub returns : goal.returns
returns g c =
    let s = c.args.stack.now in
    let past : length s.pairs.items ≤ c.loop-pair.pair-index = subst (λ (ps : List Pair). length ps ≤ c.loop-pair.pair-index) c.as_slice-pairs.ensures c.loop-pair-test.false in
    Prints-finish (Prints-whole (stack_text s.vars (pairs_of s.pairs)) (flat_map (λ (p : Pair). pair_text (pair_of p)) (drop c.loop-pair.pair-index s.pairs.items)) (ap (flat_map (λ (p : Pair). pair_text (pair_of p))) (drop_of_length-le s.pairs.items past)) c.loop-pair.invariant.prints) c.finish.ensures
