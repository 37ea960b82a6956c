use Rattle.std.proofs.Common.{◌∙◌, sym, ap}
use Rattle.std.specs.Prelude.{bit_and}
use Rattle.cp_logic.specs.Literals.{negated}
use Rattle.cp_logic.specs.Clauses.{without}
use Rattle.cp_logic.specs.Signatures.{signature, opposite}
use Rattle.cp_logic.proofs.SignatureFacts.{opposite-value, resolvent-apart}
use Rattle.cp_logic.proofs.signatures.opposite.Goals as goal

pub returns-clause-value : goal.returns-clause-value
returns-clause-value c = opposite-value c.args.bits

pub returns-clause-apart : goal.returns-clause-apart
returns-clause-apart c l clause other a b d e =
    resolvent-apart l clause other a b (ap (λ z. bit_and (opposite z) (signature (without other (negated l)))) (sym d) ∙ ap (λ z. bit_and z (signature (without other (negated l)))) (sym (opposite-value c.args.bits)) ∙ e)
