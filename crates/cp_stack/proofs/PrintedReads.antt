-- A printed stack is read as itself.
use Rattle.std.proofs.Common.{◌≡◌, ℕ, suc, ◌+◌, ◌-◌, ◌^◌, ◌<◌, ◌≤◌, Bool, true, false, eqb, leb, ltb, List, [], ◌∷◌, ◌++◌, length, map, Result, Ok, refl, sym, ◌∙◌, ap, subst, arith, append_assoc, length-append, inl, inr}
use Rattle.std.specs.Prelude.{codes, flat_map, decimal}
use Rattle.std.specs.List.{All, Contains}
use Rattle.std.proofs.lemmas.Bool.Decides.{nat_tests}
use Rattle.std.proofs.lemmas.Bool.{lt-leb, eqb-true, eqb-false}
use Rattle.std.proofs.lemmas.List.{append-nil}
use Rattle.cp_io.specs.declared.limits.Limits.{Limits}
use Rattle.cp_logic.specs.Literals.{variable_of, is_positive}
use Rattle.cp_logic.specs.Clauses.{contains, without, clause_of, IsAscending}
use Rattle.cp_logic.specs.Formulas.{IsWithin}
use Rattle.cp_logic.specs.Assignments.{Pair}
use Rattle.cp_logic.proofs.Expansions.{within_smaller, variable_within}
use Rattle.cp_logic.proofs.SignedLiterals.{signed-parts, first-within, rest-within}
use Rattle.cp_logic.proofs.Members.{in_here, in_later, in_cases, contains-in}
use Rattle.cp_logic.proofs.SetFacts.{of_clause_of, in_clause_of, IsAscending-clause_of, same_set, of_without, in_without}
use Rattle.cp_stack.specs.Text.{stack_text, header_text, pair_text, literal_part}
use Rattle.cp_text.specs.Cut.{lines_within}
use Rattle.cp_text.specs.Text.{Word, Line, lines_from}
use Rattle.cp_text.specs.Results.{◌>>=◌}
use Rattle.cp_stack.specs.Grammar.{from_words, header, pairs_in, pair_with, with_pair, words_of, stack_reads}
use Rattle.cp_stack.specs.declared.refusal.StackRefusal.{StackRefusal}
use Rattle.cp_stack.specs.Laws.{IsPair, ReadsPrinted}
use Rattle.cp_text.proofs.Cuts.{sees-all}
use Rattle.cp_text.proofs.Printed.{IsWord, AreWords, AreLines, AreWords-append, literal-is_word, decimal-is_word, number_of-literal_word, number_of-decimal, laid, placed, placed_after, line_end, lines_from-printed}
use Rattle.cp_stack.proofs.PrintedLines.{word_of, literals_line, pair_line, header_line, stack-lines}

-- ---- sets

-- a literal of a clause and the others are the clause
clause-with : (l : ℕ) (clause : List ℕ) → IsAscending clause → contains clause l ≡ true → clause_of (l ∷ without clause l) ≡ clause
clause-with l clause rising has = same_set (clause_of (l ∷ without clause l)) clause (IsAscending-clause_of (l ∷ without clause l)) rising there back
  where
    there : (x : ℕ) → Contains (clause_of (l ∷ without clause l)) x → Contains clause x
    there x i = elim (in_cases x l (without clause l) (of_clause_of (l ∷ without clause l) x i)) [
      | inl e ↦ subst (Contains clause) e (contains-in clause l has)
      | inr j ↦ (of_without clause l x j).0
    ]

    each : (x : ℕ) (b : Bool) → eqb x l ≡ b → Contains clause x → Contains (l ∷ without clause l) x
    each x true e i = in_here x l (without clause l) (sym (eqb-true x l e))
    each x false e i = in_later x l (without clause l) (in_without clause l x i (eqb-false x l e))

    back : (x : ℕ) → Contains clause x → Contains (clause_of (l ∷ without clause l)) x
    back x i = in_clause_of (l ∷ without clause l) x (each x (eqb x l) refl i)

-- the literals of a pair as they are printed are of variables from 1 on
within-pair : (variables : ℕ) (p : Pair) → IsPair variables p → IsWithin variables (p.literal ∷ without p.clause p.literal)
within-pair variables p is = within_smaller variables (p.literal ∷ without p.clause p.literal) (λ x i. variable_within variables p.clause x is.within (member x i))
  where
    member : (x : ℕ) → Contains (p.literal ∷ without p.clause p.literal) x → Contains p.clause x
    member x i = elim (in_cases x p.literal (without p.clause p.literal) i) [
      | inl e ↦ subst (Contains p.clause) e (contains-in p.clause p.literal is.literal)
      | inr j ↦ (of_without p.clause p.literal x j).0
    ]

-- ---- words

zero-is_word : IsWord (codes "0")
zero-is_word = record { some = omega arith; solid = refl }

literals-are : (variables : ℕ) (ls : List ℕ) → variables < 2 ^ 32 → IsWithin variables ls → AreWords (map word_of ls)
literals-are variables [] small h = tt
literals-are variables (l ∷ ls) small h =
    let most = (first-within variables l ls h).1 in
    (literal-is_word (is_positive l) (variable_of l) (omega arith), literals-are variables ls small (rest-within variables l ls h))

pair-are : (variables : ℕ) (p : Pair) → variables < 2 ^ 32 → IsPair variables p → AreWords (pair_line p)
pair-are variables p small is =
    AreWords-append (map word_of (p.literal ∷ without p.clause p.literal)) (codes "0" ∷ []) (literals-are variables (p.literal ∷ without p.clause p.literal) small (within-pair variables p is)) (zero-is_word, tt)

pairs-are : (variables : ℕ) (ps : List Pair) → variables < 2 ^ 32 → All (IsPair variables) ps → AreLines (map pair_line ps)
pairs-are variables [] small are = tt
pairs-are variables (p ∷ ps) small are = (pair-are variables p small (are 0 p (omega arith)), pairs-are variables ps small (λ k d low. are (suc k) d (omega arith)))

-- ---- reading

-- a literal is taken
literal-taken : (variables left l : ℕ) (literals : List ℕ) (at : ℕ) (more : List Word) (end : ℕ) → 0 < left → variables < 2 ^ 32 → 0 < variable_of l → variable_of l ≤ variables
    → pairs_in variables left literals (record { at = at; bytes = word_of l } ∷ more) end ≡ pairs_in variables left (literals ++ l ∷ []) more end
literal-taken variables left l literals at more end some small one most =
    let within : ltb variables (variable_of l) ≡ false = grind (arith, nat_tests) in
    let sized : eqb (variable_of l) 0 ≡ false = grind (arith, nat_tests) in
    let left_over : eqb left 0 ≡ false = grind (arith, nat_tests) in
    rw (number_of-literal_word (is_positive l) (variable_of l) one (omega arith), within, sized, left_over)
    (ap (λ m. pairs_in variables left (literals ++ m ∷ []) more end) (signed-parts l))

-- a pair is ended
pair-ended : (variables left : ℕ) (literals : List ℕ) (at : ℕ) (more : List Word) (end : ℕ) → 0 < left → 0 < length literals
    → pairs_in variables left literals (record { at = at; bytes = codes "0" } ∷ more) end ≡ pairs_in variables (left - 1) [] more end >>= with_pair (pair_with literals)
pair-ended variables left literals at more end some has =
    let within : ltb variables 0 ≡ false = grind (arith, nat_tests) in
    let full : eqb (length literals) 0 ≡ false = grind (arith, nat_tests) in
    let left_over : eqb left 0 ≡ false = grind (arith, nat_tests) in
    rw (within, full, left_over) refl

-- the literals behind the first and the 0
literals-taken : (variables left : ℕ) (literals ls : List ℕ) (p : ℕ) (more : List Word) (end : ℕ) → 0 < left → 0 < length literals → variables < 2 ^ 32 → IsWithin variables ls
    → pairs_in variables left literals (placed_after p (literals_line ls) ++ more) end ≡ pairs_in variables (left - 1) [] more end >>= with_pair (pair_with (literals ++ ls))
literals-taken variables left literals [] p more end some has small h =
    pair-ended variables left literals (p + 1) more end some has ∙ ap (λ (l : List ℕ). pairs_in variables (left - 1) [] more end >>= with_pair (pair_with l)) (sym (append-nil literals))
literals-taken variables left literals (l ∷ ls) p more end some has small h =
    let parts = first-within variables l ls h in
    literal-taken variables left l literals (p + 1) (placed_after (p + 1 + length (word_of l)) (literals_line ls) ++ more) end some small parts.0 parts.1
    ∙ literals-taken variables left (literals ++ l ∷ []) ls (p + 1 + length (word_of l)) more end some (omega (arith, length-append literals (l ∷ []))) small (rest-within variables l ls h)
    ∙ ap (λ (x : List ℕ). pairs_in variables (left - 1) [] more end >>= with_pair (pair_with x)) (append_assoc literals (l ∷ []) ls)

pair-taken : (variables left : ℕ) (pair : Pair) (p : ℕ) (more : List Word) (end : ℕ) → 0 < left → variables < 2 ^ 32 → IsPair variables pair
    → pairs_in variables left [] (placed p (pair_line pair) ++ more) end ≡ pairs_in variables (left - 1) [] more end >>= with_pair pair
pair-taken variables left pair p more end some small is =
    let all = within-pair variables pair is in
    let parts = first-within variables pair.literal (without pair.clause pair.literal) all in
    literal-taken variables left pair.literal [] p (placed_after (p + length (word_of pair.literal)) (literals_line (without pair.clause pair.literal)) ++ more) end some small parts.0 parts.1
    ∙ literals-taken variables left (pair.literal ∷ []) (without pair.clause pair.literal) (p + length (word_of pair.literal)) more end some (omega arith) small (rest-within variables pair.literal (without pair.clause pair.literal) all)
    ∙ ap (λ (c : List ℕ). pairs_in variables (left - 1) [] more end >>= with_pair (record { literal = pair.literal; clause = c })) (clause-with pair.literal pair.clause is.ascending is.literal)

pairs-read : (variables : ℕ) (ps : List Pair) (p end : ℕ) → variables < 2 ^ 32 → All (IsPair variables) ps → pairs_in variables (length ps) [] (words_of (laid p (map pair_line ps))) end ≡ Ok ps
pairs-read variables [] p end small are = refl
pairs-read variables (pair ∷ ps) p end small are =
    let less : length (pair ∷ ps) - 1 ≡ length ps = omega arith in
    pair-taken variables (length (pair ∷ ps)) pair p (words_of (laid (line_end p (pair_line pair) + 1) (map pair_line ps))) end (omega arith) small (are 0 pair (omega arith))
    ∙ ap (λ n. pairs_in variables n [] (words_of (laid (line_end p (pair_line pair) + 1) (map pair_line ps))) end >>= with_pair pair) less
    ∙ ap (λ (o : Result (List Pair) StackRefusal). o >>= with_pair pair) (pairs-read variables ps (line_end p (pair_line pair) + 1) end small (λ k d low. are (suc k) d (omega arith)))

-- ---- the header

not_empty : (p : ℕ) (w : List ℕ) (ws : List (List ℕ)) → eqb (length (placed p (w ∷ ws))) 0 ≡ false
not_empty p w ws = let more : 0 < length (placed p (w ∷ ws)) = omega arith in grind (arith, nat_tests)

-- a line with words is the first of them
header-first : (p : ℕ) (w : List ℕ) (ws : List (List ℕ)) (lines : List (List (List ℕ))) → from_words (laid p ((w ∷ ws) ∷ lines)) ≡ laid p ((w ∷ ws) ∷ lines)
header-first p w ws [] = rw (not_empty p w ws) refl
header-first p w ws (line ∷ lines) = rw (not_empty p w ws) refl

header-read : (limits : Limits) (variables n end : ℕ) (p : ℕ) (rest : List Line) → variables ≤ limits.variables → variables < 2 ^ 32 → n < 2 ^ 64
    → header limits (record { words = placed p (header_line variables n); end = end } ∷ rest) ≡ Ok (record { variables = variables; pairs = n; lines = record { words = []; end = end } ∷ rest })
header-read limits variables n end p rest most small low =
    let within : ltb limits.variables variables ≡ false = grind (arith, nat_tests) in
    let counted_pairs : leb (2 ^ 64) n ≡ false = lt-leb (2 ^ 64) n low in
    rw (number_of-decimal variables (omega arith), within, number_of-decimal n low, counted_pairs) refl

-- ---- how many pairs there are

pairs_length : (ps : List Pair) → length ps ≤ length (flat_map pair_text ps)
pairs_length [] = omega arith
pairs_length (p ∷ ps) =
    omega (arith, pairs_length ps, length-append (pair_text p) (flat_map pair_text ps), length-append (literal_part p.literal) (flat_map literal_part (without p.clause p.literal) ++ codes "0\n"), length-append (flat_map literal_part (without p.clause p.literal)) (codes "0\n"))

-- within the limits a printed stack is read as itself
pub stack-read : ReadsPrinted
unfolding stack_reads
stack-read limits variables ps small bytes are most short =
    let few : length ps < 2 ^ 64 = omega (arith, pairs_length ps, length-append (header_text variables (length ps)) (flat_map pair_text ps)) in
    let lines : lines_within limits.bytes (stack_text variables ps) ≡ laid 0 (header_line variables (length ps) ∷ map pair_line ps) =
    sees-all limits.bytes (stack_text variables ps) short ∙ ap (lines_from 0) (stack-lines variables ps)
    ∙ lines_from-printed 0 (header_line variables (length ps) ∷ map pair_line ps) (are_lines few) in
    let test : ltb limits.bytes (length (stack_text variables ps)) ≡ false = grind (arith, nat_tests) in
    rw (test, lines, header-first 0 (codes "p") (codes "stack" ∷ codes "1" ∷ decimal variables ∷ decimal (length ps) ∷ []) (map pair_line ps), header-read limits variables (length ps) (line_end 0 (header_line variables (length ps))) 0 (laid (line_end 0 (header_line variables (length ps)) + 1) (map pair_line ps)) most (omega arith) few)
    (ap (λ (o : Result (List Pair) StackRefusal). o >>= λ pairs. Ok (record { variables = variables; pairs = pairs })) (pairs-read variables ps (line_end 0 (header_line variables (length ps)) + 1) _ (omega arith) are))
  where
    are_lines : length ps < 2 ^ 64 → AreLines (header_line variables (length ps) ∷ map pair_line ps)
    are_lines few = (
      (record { some = omega arith; solid = refl }, (record { some = omega arith; solid = refl }, (record { some = omega arith; solid = refl }, (decimal-is_word variables (omega arith), (decimal-is_word (length ps) few, tt))))),
      pairs-are variables ps (omega arith) are,
    )
