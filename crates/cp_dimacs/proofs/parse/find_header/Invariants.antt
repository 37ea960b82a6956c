use Rattle.std.proofs.Common.{◌≡◌, ◌+◌, ◌≤◌, length}
use Rattle.cp_text.specs.Text.{lines_from}
use Rattle.cp_text.specs.Ahead.{text_end}
use Rattle.cp_dimacs.specs.Grammar.{document}
use Rattle.cp_dimacs.specs.Document.{document_ahead}
use Rattle.cp_dimacs.proofs.parse.find_header.Given as goal

abbrev pub invariant-lines : goal.invariant-lines
invariant-lines l = record {
  goes_on : document_ahead l.limits l.text ≡ document l.limits l.text.cut (text_end l.text) (lines_from l.at l.rest);
  later : l.text.at ≤ l.at;
  length : l.at + length l.rest ≡ text_end l.text;
}

abbrev pub decreases-lines : goal.decreases-lines
decreases-lines l = length l.rest
