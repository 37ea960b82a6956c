-- Worked examples of what a text reads as, of three variables.
use Rattle.std.proofs.Common.{◌≡◌, ℕ, true, false, [], ◌∷◌, Ok, Err, refl}
use Rattle.std.specs.Prelude.{codes}
use Rattle.cp_io.specs.Limits.{standard_limits}
use Rattle.cp_io.specs.declared.limits.Limits.{Limits}
use Rattle.cp_io.specs.declared.limits.Limit.TheVariants.{Variables, Bytes}
use Rattle.cp_text.specs.Cut.{lines_within}
use Rattle.cp_text.specs.Text.{lines_from}
use Rattle.cp_extend.specs.declared.refusal.ModelKind.TheVariants.{BadWord, BadStatus, Contradiction, NoEnd}
use Rattle.cp_extend.specs.declared.refusal.ModelRefusal.TheVariants.{BadModel, NoModel, TooLarge}
use Rattle.cp_extend.specs.Grammar.{model_reads}

-- the standard limits, but for so many bytes
abbrev pub bytes_up_to : ℕ → Limits
bytes_up_to limit = record standard_limits { bytes = limit }

pub comment_and_status : model_reads standard_limits 3 (codes "c x\ns SATISFIABLE\nv 3\nv 0\n") ≡ Ok (false ∷ false ∷ true ∷ [])
unfolding model_reads lines_within lines_from
comment_and_status = refl

pub contradiction : model_reads standard_limits 3 (codes "v 1 -1 0\n") ≡ Err (BadModel 4 Contradiction)
unfolding model_reads lines_within lines_from
contradiction = refl

pub unsatisfiable : model_reads standard_limits 3 (codes "s UNSATISFIABLE\n") ≡ Err NoModel
unfolding model_reads lines_within lines_from
unsatisfiable = refl

pub unknown_without_line_feed : model_reads standard_limits 3 (codes "s UNKNOWN") ≡ Err NoModel
unfolding model_reads lines_within lines_from
unknown_without_line_feed = refl

pub no_end : model_reads standard_limits 3 (codes "v 1\n") ≡ Err (BadModel 4 NoEnd)
unfolding model_reads lines_within lines_from
no_end = refl

pub nothing_behind_the_end : model_reads standard_limits 3 (codes "v 1 -2 3 00 x\nfoo") ≡ Ok (true ∷ false ∷ true ∷ [])
unfolding model_reads lines_within lines_from
nothing_behind_the_end = refl

pub too_great : model_reads standard_limits 3 (codes "v 2000001 0\n") ≡ Err (TooLarge Variables 2)
unfolding model_reads lines_within lines_from
too_great = refl

pub contradiction_past_the_last_variable : model_reads standard_limits 3 (codes "v 4 -4 0\n") ≡ Err (BadModel 4 Contradiction)
unfolding model_reads lines_within lines_from
contradiction_past_the_last_variable = refl

pub repeated_past_the_last_variable : model_reads standard_limits 3 (codes "v 4 2 4 0\n") ≡ Ok (false ∷ true ∷ false ∷ [])
unfolding model_reads lines_within lines_from
repeated_past_the_last_variable = refl

pub minus_zero : model_reads standard_limits 3 (codes "v -0\n") ≡ Err (BadModel 2 BadWord)
unfolding model_reads lines_within lines_from
minus_zero = refl

pub second_status : model_reads standard_limits 3 (codes "s SATISFIABLE\ns SATISFIABLE\nv 0\n") ≡ Err (BadModel 14 BadStatus)
unfolding model_reads lines_within lines_from
second_status = refl

pub status_without_word : model_reads standard_limits 3 (codes "s\n") ≡ Err (BadModel 1 BadStatus)
unfolding model_reads lines_within lines_from
status_without_word = refl

pub long_status : model_reads standard_limits 3 (codes "s SATISFIABLE x\n") ≡ Err (BadModel 14 BadStatus)
unfolding model_reads lines_within lines_from
long_status = refl

pub long_status_of_no_model : model_reads standard_limits 3 (codes "s UNKNOWN x\n") ≡ Err (BadModel 10 BadStatus)
unfolding model_reads lines_within lines_from
long_status_of_no_model = refl

pub status_behind_values : model_reads standard_limits 3 (codes "v 1\ns UNKNOWN\n") ≡ Err NoModel
unfolding model_reads lines_within lines_from
status_behind_values = refl

pub blanks_and_lines : model_reads standard_limits 3 (codes " \t\r\n\n\tv\r-1  2\r\nv\nv 0") ≡ Ok (false ∷ true ∷ false ∷ [])
unfolding model_reads lines_within lines_from
blanks_and_lines = refl

pub end_within_the_limit : model_reads (bytes_up_to 7) 3 (codes "v 1 2 0 x") ≡ Ok (true ∷ true ∷ false ∷ [])
unfolding model_reads lines_within lines_from
end_within_the_limit = refl

pub past_the_limit : model_reads (bytes_up_to 6) 3 (codes "v 1 2 0 x") ≡ Err (TooLarge Bytes 6)
unfolding model_reads lines_within lines_from
past_the_limit = refl

pub end_cut_by_the_limit : model_reads (bytes_up_to 7) 3 (codes "v 1 2 00") ≡ Err (TooLarge Bytes 7)
unfolding model_reads lines_within lines_from
end_cut_by_the_limit = refl

pub status_cut_by_the_limit : model_reads (bytes_up_to 9) 3 (codes "s UNKNOWN\n") ≡ Err (TooLarge Bytes 9)
unfolding model_reads lines_within lines_from
status_cut_by_the_limit = refl

pub status_within_the_limit : model_reads (bytes_up_to 10) 3 (codes "s UNKNOWN\n") ≡ Err NoModel
unfolding model_reads lines_within lines_from
status_within_the_limit = refl

pub missing_word_at_the_limit : model_reads (bytes_up_to 1) 3 (codes "s\nv 1 0") ≡ Err (TooLarge Bytes 1)
unfolding model_reads lines_within lines_from
missing_word_at_the_limit = refl

pub fault_within_the_limit : model_reads (bytes_up_to 6) 3 (codes "v 1 -1 0") ≡ Err (BadModel 4 Contradiction)
unfolding model_reads lines_within lines_from
fault_within_the_limit = refl

pub fault_cut_by_the_limit : model_reads (bytes_up_to 5) 3 (codes "v 1 -1 0") ≡ Err (TooLarge Bytes 5)
unfolding model_reads lines_within lines_from
fault_cut_by_the_limit = refl
