use Rattle.std.proofs.Common.{◌≡◌, ◌+◌, length}
use Rattle.cp_text.specs.Text.{lines_from}
use Rattle.cp_text.specs.Ahead.{text_end}
use Rattle.cp_dimacs.specs.Lines.{resume_lines, resume_ahead}
use Rattle.cp_dimacs.proofs.body.take_body.Given as goal

abbrev pub invariant-lines : goal.invariant-lines
invariant-lines l = record {
  goes_on : resume_ahead l.limits l.text l.initial.reading ≡ resume_lines l.limits l.text.cut (text_end l.text) l.reading (lines_from l.at l.rest);
  length : l.at + length l.rest ≡ text_end l.text;
}

abbrev pub decreases-lines : goal.decreases-lines
decreases-lines l = length l.rest
