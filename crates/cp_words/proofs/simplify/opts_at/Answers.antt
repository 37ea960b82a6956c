use Rattle.std.proofs.Common.{arith}
use Rattle.cp_words.proofs.simplify.opts_at.Goals as goal

pub returns : goal.returns
returns c =
    let bound = c.number_64_at.ensures 0 1000 c.requires.3 in
    let budget = c.number_64_at-2.ensures 0 1099511627776 c.requires.4 in
    let workers = c.number_32_at.ensures 0 64 (omega arith) c.requires.0 in
    let rounds = c.number_32_at-2.ensures 0 16 (omega arith) c.requires.1 in
    let hood = c.number_32_at-3.ensures 1 4096 (omega arith) c.requires.2 in
    record {
      opts = λ i. record {
        rules = record { choice = c.args.choice; bound = bound.0 i; budget = budget.0 i };
        workers = workers.0 i;
        rounds = rounds.0 i;
        hood = hood.0 i;
      };
      limits = (workers.2, rounds.2, hood.1, hood.2, bound.2, budget.2);
    }
