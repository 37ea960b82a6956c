use Rattle.std.proofs.Common.{arith}
use Rattle.cp_words.proofs.generate.generate_options.Goals as goal

pub returns : goal.returns
returns c =
    let seed = c.number_32_at.ensures 0 2147483647 (omega arith) c.requires.0 in
    let vars = c.number_32_at-2.ensures 1 2000000 (omega arith) c.requires.1 in
    let clauses = c.number_32_at-3.ensures 0 8000000 (omega arith) c.requires.2 in
    record {
      options = λ i. record { seed = seed.0 i; vars = vars.0 i; clauses = clauses.0 i; summary = c.text_at.ensures i };
      limits = (omega (arith, seed.2), vars.1, vars.2, clauses.2);
    }
