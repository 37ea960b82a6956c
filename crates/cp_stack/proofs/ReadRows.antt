-- Worked examples of texts that are read.
use Rattle.std.proofs.Common.{◌≡◌, ℕ, List, [], ◌∷◌, Ok, Err, refl}
use Rattle.std.specs.Prelude.{codes}
use Rattle.cp_io.specs.Limits.{standard_limits}
use Rattle.cp_io.specs.declared.limits.Limits.{Limits}
use Rattle.cp_io.specs.declared.limits.Limit.TheVariants.{Variables, Bytes}
use Rattle.cp_logic.specs.Assignments.{Pair}
use Rattle.cp_logic.specs.Clauses.{clause_of}
use Rattle.cp_text.specs.Text.{lines_from}
use Rattle.cp_text.specs.Cut.{lines_within}
use Rattle.cp_stack.specs.declared.refusal.StackKind.TheVariants.{BadHeader, BadWord, TooGreat, EmptyPair, OpenPair, Count}
use Rattle.cp_stack.specs.declared.refusal.StackRefusal.TheVariants.{BadStack, TooLarge}
use Rattle.cp_stack.specs.Grammar.{Stack, stack_reads}
use Rattle.cp_stack.proofs.Rows.{pair}

abbrev pub stack : ℕ → List Pair → Stack
stack variables pairs = record { variables = variables; pairs = pairs }

abbrev pub limits : ℕ → ℕ → Limits
limits variables bytes = record { variables = variables; clauses = 0; literals = 0; bytes = bytes }

pub no_pairs : stack_reads standard_limits (codes "p stack 1 0 0\n") ≡ Ok (stack 0 [])
unfolding stack_reads lines_within lines_from
no_pairs = refl

pub three_pairs : stack_reads standard_limits (codes "p stack 1 3 3\n1 2 0\n-1 3 0\n2 3 0\n") ≡ Ok (stack 3 (pair 2 (2 ∷ 4 ∷ []) ∷ pair 3 (3 ∷ 6 ∷ []) ∷ pair 4 (4 ∷ 6 ∷ []) ∷ []))
unfolding stack_reads lines_within lines_from clause_of
three_pairs = refl

pub fewer_pairs : stack_reads standard_limits (codes "p stack 1 3 3\n1 2 0\n") ≡ Err (BadStack 20 Count)
unfolding stack_reads lines_within lines_from
fewer_pairs = refl

-- repeats count once, and the first literal stays the pair's
pub any_lines : stack_reads standard_limits (codes "\n \r\n p\tstack 1 003 02 \n\n3 -1\n 3 2 00 -2\n\n0") ≡ Ok (stack 3 (pair 6 (3 ∷ 4 ∷ 6 ∷ []) ∷ pair 5 (5 ∷ []) ∷ []))
unfolding stack_reads lines_within lines_from clause_of
any_lines = refl

pub no_words : stack_reads standard_limits (codes " \n\n\t") ≡ Err (BadStack 4 BadHeader)
unfolding stack_reads lines_within lines_from
no_words = refl

pub no_bytes : stack_reads standard_limits (codes "") ≡ Err (BadStack 0 BadHeader)
unfolding stack_reads lines_within lines_from
no_bytes = refl

pub other_format : stack_reads standard_limits (codes "p cnf 1 1\n") ≡ Err (BadStack 2 BadHeader)
unfolding stack_reads lines_within lines_from
other_format = refl

pub a_comment : stack_reads standard_limits (codes "c x\np stack 1 0 0\n") ≡ Err (BadStack 0 BadHeader)
unfolding stack_reads lines_within lines_from
a_comment = refl

pub version_two : stack_reads standard_limits (codes "p stack 2 1 0\n") ≡ Err (BadStack 8 BadHeader)
unfolding stack_reads lines_within lines_from
version_two = refl

pub version_zero_one : stack_reads standard_limits (codes "p stack 01 1 0\n") ≡ Err (BadStack 8 BadHeader)
unfolding stack_reads lines_within lines_from
version_zero_one = refl

pub a_short_header : stack_reads standard_limits (codes "p stack 1 7\n") ≡ Err (BadStack 11 BadHeader)
unfolding stack_reads lines_within lines_from
a_short_header = refl

pub a_short_header_at_the_end : stack_reads standard_limits (codes "p stack 1") ≡ Err (BadStack 9 BadHeader)
unfolding stack_reads lines_within lines_from
a_short_header_at_the_end = refl

pub a_long_header : stack_reads standard_limits (codes "p stack 1 1 0 0\n") ≡ Err (BadStack 14 BadHeader)
unfolding stack_reads lines_within lines_from
a_long_header = refl

pub negative_variables : stack_reads standard_limits (codes "p stack 1 -1 0\n") ≡ Err (BadStack 10 BadHeader)
unfolding stack_reads lines_within lines_from
negative_variables = refl

pub negative_pairs : stack_reads standard_limits (codes "p stack 1 1 -1\n") ≡ Err (BadStack 12 BadHeader)
unfolding stack_reads lines_within lines_from
negative_pairs = refl

pub most_variables : stack_reads standard_limits (codes "p stack 1 2000000 0\n") ≡ Ok (stack 2000000 [])
unfolding stack_reads lines_within lines_from
most_variables = refl

pub too_many_variables : stack_reads standard_limits (codes "p stack 1 2000001 x\n") ≡ Err (TooLarge Variables 10)
unfolding stack_reads lines_within lines_from
too_many_variables = refl

pub too_many_pairs : stack_reads standard_limits (codes "p stack 1 1 18446744073709551616\n") ≡ Err (BadStack 12 BadHeader)
unfolding stack_reads lines_within lines_from
too_many_pairs = refl

pub most_pairs : stack_reads standard_limits (codes "p stack 1 1 18446744073709551615\n") ≡ Err (BadStack 33 Count)
unfolding stack_reads lines_within lines_from
most_pairs = refl

pub no_number : stack_reads standard_limits (codes "p stack 1 1 1\n+1 0\n") ≡ Err (BadStack 14 BadWord)
unfolding stack_reads lines_within lines_from
no_number = refl

pub minus_zero : stack_reads standard_limits (codes "p stack 1 1 1\n1 -0\n") ≡ Err (BadStack 16 BadWord)
unfolding stack_reads lines_within lines_from
minus_zero = refl

pub too_great : stack_reads standard_limits (codes "p stack 1 2 1\n1 -3 0\n") ≡ Err (BadStack 16 TooGreat)
unfolding stack_reads lines_within lines_from
too_great = refl

pub far_too_great : stack_reads standard_limits (codes "p stack 1 2 1\n99999999999999999999999 0\n") ≡ Err (BadStack 14 TooGreat)
unfolding stack_reads lines_within lines_from
far_too_great = refl

pub empty_pair : stack_reads standard_limits (codes "p stack 1 2 2\n1 0 0\n") ≡ Err (BadStack 18 EmptyPair)
unfolding stack_reads lines_within lines_from
empty_pair = refl

pub a_pair_more : stack_reads standard_limits (codes "p stack 1 2 1\n1 0 2 0\n") ≡ Err (BadStack 18 Count)
unfolding stack_reads lines_within lines_from
a_pair_more = refl

-- behind the last pair a word is Count only where it is nothing worse
pub an_empty_pair_more : stack_reads standard_limits (codes "p stack 1 0 0\n0\n") ≡ Err (BadStack 14 EmptyPair)
unfolding stack_reads lines_within lines_from
an_empty_pair_more = refl

pub a_great_literal_more : stack_reads standard_limits (codes "p stack 1 1 0\n2\n") ≡ Err (BadStack 14 TooGreat)
unfolding stack_reads lines_within lines_from
a_great_literal_more = refl

pub a_word_more : stack_reads standard_limits (codes "p stack 1 0 0\nx\n") ≡ Err (BadStack 14 BadWord)
unfolding stack_reads lines_within lines_from
a_word_more = refl

pub open_pair : stack_reads standard_limits (codes "p stack 1 2 2\n1 2") ≡ Err (BadStack 17 OpenPair)
unfolding stack_reads lines_within lines_from
open_pair = refl

pub open_pair_at_line : stack_reads standard_limits (codes "p stack 1 2 1\n1 2\n") ≡ Err (BadStack 18 OpenPair)
unfolding stack_reads lines_within lines_from
open_pair_at_line = refl

-- limits that a text just keeps, and the same less one
pub within_the_limit : stack_reads (limits 9 14) (codes "p stack 1 1 0\n") ≡ Ok (stack 1 [])
unfolding stack_reads lines_within lines_from
within_the_limit = refl

pub a_byte_past_the_limit : stack_reads (limits 9 13) (codes "p stack 1 1 0\n") ≡ Err (TooLarge Bytes 13)
unfolding stack_reads lines_within lines_from
a_byte_past_the_limit = refl

pub a_variable_past_the_limit : stack_reads (limits 2 99) (codes "p stack 1 3 0\n") ≡ Err (TooLarge Variables 10)
unfolding stack_reads lines_within lines_from
a_variable_past_the_limit = refl

pub variables_at_the_limit : stack_reads (limits 2 99) (codes "p stack 1 2 0\n") ≡ Ok (stack 2 [])
unfolding stack_reads lines_within lines_from
variables_at_the_limit = refl

pub a_fault_before_the_limit : stack_reads (limits 9 16) (codes "p stack 1 1 1\nx 1 0\n") ≡ Err (BadStack 14 BadWord)
unfolding stack_reads lines_within lines_from
a_fault_before_the_limit = refl

pub a_fault_cut_at_the_limit : stack_reads (limits 9 15) (codes "p stack 1 1 1\nx 1 0\n") ≡ Err (BadStack 14 BadWord)
unfolding stack_reads lines_within lines_from
a_fault_cut_at_the_limit = refl

-- a word or a line that the limit cuts says nothing
pub a_word_cut : stack_reads (limits 9 15) (codes "p stack 1 1 1\nxx 1 0\n") ≡ Err (TooLarge Bytes 15)
unfolding stack_reads lines_within lines_from
a_word_cut = refl

pub a_header_cut : stack_reads (limits 9 11) (codes "p stack 1 1\n") ≡ Err (TooLarge Bytes 11)
unfolding stack_reads lines_within lines_from
a_header_cut = refl

pub a_header_cut_behind_its_line : stack_reads (limits 9 12) (codes "p stack 1 1\n\n") ≡ Err (BadStack 11 BadHeader)
unfolding stack_reads lines_within lines_from
a_header_cut_behind_its_line = refl
