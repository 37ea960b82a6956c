-- A printed formula is read as its clauses.
use Rattle.std.proofs.Common.{◌≡◌, ℕ, zero, suc, ◌+◌, ◌^◌, ◌<◌, ◌≤◌, max, Bool, true, false, eqb, leb, ltb, cond, List, [], ◌∷◌, ◌++◌, length, get_or, map, sum_by, Result, Ok, refl, sym, ◌∙◌, ap, arith, append_assoc}
use Rattle.std.specs.Prelude.{codes, decimal}
use Rattle.std.specs.List.{All}
use Rattle.std.specs.Char.{is_ascii_digit}
use Rattle.std.specs.Str.{all_ascii_digits}
use Rattle.std.proofs.lemmas.Bool.Decides.{nat_tests}
use Rattle.std.proofs.lemmas.Bool.{and_parts, eqb-true}
use Rattle.std.proofs.lemmas.List.{append-nil, take_all, drop_all, length-map}
use Rattle.std.proofs.lemmas.List.Elements.{All-map}
use Rattle.std.proofs.lemmas.List.Sums.{sum_by-cons}
use Rattle.cp_io.specs.declared.limits.Limits.{Limits}
use Rattle.cp_logic.specs.declared.named.Named.{Named}
use Rattle.cp_logic.specs.Literals.{variable_of, is_positive}
use Rattle.cp_logic.specs.Clauses.{clause_of, IsAscending}
use Rattle.cp_logic.specs.Entries.{numbered_from, renumbered}
use Rattle.cp_logic.specs.Formulas.{Formula, IsFormula, IsWithin, clauses_of, has_empty}
use Rattle.cp_logic.proofs.Filling.{within-more}
use Rattle.cp_logic.proofs.SignedLiterals.{signed-parts, first-within, rest-within}
use Rattle.cp_logic.proofs.SortedClauses.{ascending-clause_of}
use Rattle.cp_dimacs.specs.Cnf.{cnf_text}
use Rattle.cp_dimacs.specs.Written.{formula_of, greatest_of, greatest_in}
use Rattle.cp_text.specs.Text.{Word, Line, begins_with, lines_from}
use Rattle.cp_text.specs.Results.{◌>>=◌}
use Rattle.cp_dimacs.specs.Grammar.{Body, body, header, clauses_from, document, judged, reads}
use Rattle.cp_dimacs.specs.declared.refusal.CnfRefusal.{CnfRefusal}
use Rattle.cp_dimacs.specs.Laws.{as_printed, ReadsPrinted}
use Rattle.cp_text.proofs.Printed.{AreWords, AreLines, literal_word, literal-is_word, decimal-is_word, decimal-all_digits, number_of-literal_word, number_of-decimal, lines_text, laid, placed, placed_after, line_end, lines_from-printed}
use Rattle.cp_dimacs.proofs.PrintedLines.{word_of, clause_line, clause_lines, header_line, cnf-lines, empty-lines}

-- ---- the literals of a clause

literal-taken : (limits : Limits) (m n l : ℕ) (literals : List ℕ) (at : ℕ) (more : List Word) (end : ℕ) → limits.variables < 2 ^ 32 → n < limits.literals → 0 < variable_of l → variable_of l ≤ limits.variables
    → clauses_from limits m n literals (record { at = at; bytes = word_of l } ∷ more) end ≡ clauses_from limits m (n + 1) (literals ++ l ∷ []) more end
literal-taken limits m n l literals at more end small few one most =
    let within : ltb limits.variables (variable_of l) ≡ false = grind (arith, nat_tests) in
    let sized : eqb (variable_of l) 0 ≡ false = grind (arith, nat_tests) in
    let room : leb limits.literals n ≡ false = grind (arith, nat_tests) in
    rw (number_of-literal_word (is_positive l) (variable_of l) one (omega arith), sized, within, room)
    (ap (λ x. clauses_from limits m (n + 1) (literals ++ x ∷ []) more end) (signed-parts l))

-- a clause in front of clauses that are read
abbrev with_clause : List ℕ → List (List ℕ) → Result (List (List ℕ)) CnfRefusal
with_clause clause clauses = Ok (clause ∷ clauses)

clause-ended : (limits : Limits) (m n : ℕ) (literals : List ℕ) (at : ℕ) (more : List Word) (end : ℕ) → m ≤ limits.clauses
    → clauses_from limits m n literals (record { at = at; bytes = codes "0" } ∷ more) end ≡ clauses_from limits (m + 1) n [] more end >>= with_clause literals
clause-ended limits m n literals at more end few = let room : ltb limits.clauses m ≡ false = grind (arith, nat_tests) in rw room refl

literals-taken : (limits : Limits) (m n : ℕ) (literals ls : List ℕ) (p : ℕ) (more : List Word) (end : ℕ) → limits.variables < 2 ^ 32 → m ≤ limits.clauses → n + length ls ≤ limits.literals → IsWithin limits.variables ls
    → clauses_from limits m n literals (placed_after p (clause_line ls) ++ more) end ≡ clauses_from limits (m + 1) (n + length ls) [] more end >>= with_clause (literals ++ ls)
literals-taken limits m n literals [] p more end small clauses few h =
    let same : n ≡ n + 0 = omega arith in
    clause-ended limits m n literals (p + 1) more end clauses ∙ ap (λ k. clauses_from limits (m + 1) k [] more end >>= with_clause literals) same
    ∙ ap (λ (l : List ℕ). clauses_from limits (m + 1) (n + 0) [] more end >>= with_clause l) (sym (append-nil literals))
literals-taken limits m n literals (l ∷ ls) p more end small clauses few h =
    let parts = first-within limits.variables l ls h in
    let count : n + 1 + length ls ≡ n + length (l ∷ ls) = omega arith in
    literal-taken limits m n l literals (p + 1) (placed_after (p + 1 + length (word_of l)) (clause_line ls) ++ more) end small (omega arith) parts.0 parts.1
    ∙ literals-taken limits m (n + 1) (literals ++ l ∷ []) ls (p + 1 + length (word_of l)) more end small clauses (omega arith) (rest-within limits.variables l ls h)
    ∙ ap (λ (x : List ℕ). clauses_from limits (m + 1) (n + 1 + length ls) [] more end >>= with_clause x) (append_assoc literals (l ∷ []) ls)
    ∙ ap (λ k. clauses_from limits (m + 1) k [] more end >>= with_clause (literals ++ l ∷ ls)) count

clause-taken : (limits : Limits) (m n : ℕ) (ls : List ℕ) (p : ℕ) (more : List Word) (end : ℕ) → limits.variables < 2 ^ 32 → m ≤ limits.clauses → n + length ls ≤ limits.literals → IsWithin limits.variables ls
    → clauses_from limits m n [] (placed p (clause_line ls) ++ more) end ≡ clauses_from limits (m + 1) (n + length ls) [] more end >>= with_clause ls
clause-taken limits m n [] p more end small clauses few h =
    let same : n ≡ n + 0 = omega arith in
    clause-ended limits m n [] p more end clauses ∙ ap (λ k. clauses_from limits (m + 1) k [] more end >>= with_clause []) same
clause-taken limits m n (l ∷ ls) p more end small clauses few h =
    let parts = first-within limits.variables l ls h in
    let count : n + 1 + length ls ≡ n + length (l ∷ ls) = omega arith in
    literal-taken limits m n l [] p (placed_after (p + length (word_of l)) (clause_line ls) ++ more) end small (omega arith) parts.0 parts.1
    ∙ literals-taken limits m (n + 1) (l ∷ []) ls (p + length (word_of l)) more end small clauses (omega arith) (rest-within limits.variables l ls h)
    ∙ ap (λ k. clauses_from limits (m + 1) k [] more end >>= with_clause (l ∷ ls)) count

-- ---- the clauses

-- the words of lines with their places, and where the last line ends
abbrev words_laid : ℕ → List (List (List ℕ)) → List Word
words_laid p [] = []
words_laid p (line ∷ lines) = placed p line ++ words_laid (line_end p line + 1) lines

clauses-read : (limits : Limits) (m n : ℕ) (clauses : List (List ℕ)) (p end : ℕ) → limits.variables < 2 ^ 32 → m + length clauses ≤ limits.clauses + 1 → n + sum_by length clauses ≤ limits.literals → All (IsWithin limits.variables) clauses
    → clauses_from limits m n [] (words_laid p (clause_lines clauses)) end ≡ Ok clauses
clauses-read limits m n [] p end small few most h = refl
clauses-read limits m n (ls ∷ clauses) p end small few most h =
    let sum = sum_by-cons length ls clauses in
    clause-taken limits m n ls p (words_laid (line_end p (clause_line ls) + 1) (clause_lines clauses)) end small (omega arith) (omega arith) (h 0 ls (omega arith))
    ∙ ap (λ (o : Result (List (List ℕ)) CnfRefusal). o >>= with_clause ls) (clauses-read limits (m + 1) (n + length ls) clauses (line_end p (clause_line ls) + 1) end small (omega arith) (omega arith) (λ k d low. h (suc k) d (omega arith)))

-- ---- the lines

begins-digits : (c : ℕ) (ds : List ℕ) → is_ascii_digit c ≡ false → all_ascii_digits ds ≡ true → begins_with c ds ≡ false
begins-digits c [] h d = refl
begins-digits c (b ∷ ds) h d = go (eqb b c) refl
  where
    go : (s : Bool) → eqb b c ≡ s → s ≡ false
    go false e = refl
    go true e = absurd (cc (sym h ∙ ap is_ascii_digit (sym (eqb-true b c e)) ∙ (and_parts (is_ascii_digit b) (all_ascii_digits ds) d).0))

begins-word : (c : ℕ) (s : Bool) (x : ℕ) → is_ascii_digit c ≡ false → eqb 45 c ≡ false → x < 2 ^ 64 → begins_with c (literal_word s x) ≡ false
begins-word c true x h minus small = begins-digits c (decimal x) h (decimal-all_digits x small)
begins-word c false x h minus small = minus

-- the words behind the header are those of the clauses
body-laid : (variables most p : ℕ) (clauses : List (List ℕ)) → variables < 2 ^ 32 → All (IsWithin variables) clauses
    → body false most (laid p (clause_lines clauses)) ≡ record { words = words_laid p (clause_lines clauses); end = most; ended = false }
body-laid variables most p [] small h = refl
body-laid variables most p ([] ∷ clauses) small h =
    ap (λ (b : Body). record b { words = placed p (clause_line []) ++ b.words }) (body-laid variables most (line_end p (clause_line []) + 1) clauses small (λ k d low. h (suc k) d (omega arith)))
body-laid variables most p ((l ∷ ls) ∷ clauses) small h =
    let low = (first-within variables l ls (h 0 (l ∷ ls) (omega arith))).1 in
    rw (begins-word 37 (is_positive l) (variable_of l) refl refl (omega arith), begins-word 99 (is_positive l) (variable_of l) refl refl (omega arith))
    (ap (λ (b : Body). record b { words = placed p (clause_line (l ∷ ls)) ++ b.words }) (body-laid variables most (line_end p (clause_line (l ∷ ls)) + 1) clauses small (λ k d low. h (suc k) d (omega arith))))

-- ---- the whole

header-read : (limits : Limits) (variables n p end : ℕ) → variables ≤ limits.variables → variables < 2 ^ 32 → n < 2 ^ 64 → header limits (placed p (header_line variables n)) end ≡ Ok variables
header-read limits variables n p end most small low =
    let within : ltb limits.variables variables ≡ false = grind (arith, nat_tests) in
    rw (number_of-decimal variables (omega arith), within, number_of-decimal n low) refl

-- printed clauses are read as they are written
document-read : (limits : Limits) (variables n most : ℕ) (clauses : List (List ℕ)) → limits.variables < 2 ^ 32 → n < 2 ^ 64 → variables ≤ limits.variables → length clauses ≤ limits.clauses → sum_by length clauses ≤ limits.literals → All (IsWithin variables) clauses
    → document limits false most (laid 0 (header_line variables n ∷ clause_lines clauses)) ≡ Ok (formula_of variables clauses, false)
document-read limits variables n most clauses small low within few literals h =
    let line = header_line variables n in
    rw (
      header-read limits variables n 0 (line_end 0 line) within (omega arith) low,
      body-laid variables most (line_end 0 line + 1) clauses (omega arith) h,
      clauses-read limits 1 0 clauses (line_end 0 line + 1) most small (omega arith) (omega arith) (λ k d low. within-more variables limits.variables (get_or clauses k d) (omega arith) (h k d low)),
    ) refl

-- ---- the formula of the clauses

greatest-within : (variables : ℕ) (ls : List ℕ) → IsWithin variables ls → greatest_of ls ≤ variables
greatest-within variables [] h = omega arith
greatest-within variables (l ∷ ls) h = omega (arith, (first-within variables l ls h).1, greatest-within variables ls (rest-within variables l ls h))

greatest-in : (variables : ℕ) (clauses : List (List ℕ)) → All (IsWithin variables) clauses → greatest_in clauses ≤ variables
greatest-in variables [] h = omega arith
greatest-in variables (ls ∷ clauses) h = omega (arith, greatest-within variables ls (h 0 ls (omega arith)), greatest-in variables clauses (λ k d low. h (suc k) d (omega arith)))

numbered-again : (n : ℕ) (cs : List Named) → All (λ (c : Named). IsAscending c.clause) cs → numbered_from n (map clause_of (clauses_of cs)) ≡ renumbered n cs
numbered-again n [] h = refl
numbered-again n (c ∷ cs) h =
    ap (λ (clause : List ℕ). record { number = n; clause = clause } ∷ numbered_from (n + 1) (map clause_of (clauses_of cs))) (sym (ascending-clause_of c.clause (h 0 c (omega arith))))
    ∙ ap (λ (ds : List Named). record { number = n; clause = c.clause } ∷ ds) (numbered-again (n + 1) cs (λ k d low. h (suc k) d (omega arith)))

formula-again : (f : Formula) → IsFormula f → All (IsWithin f.variables) (clauses_of f.clauses) → formula_of f.variables (clauses_of f.clauses) ≡ record { variables = f.variables; next = length f.clauses + 1; clauses = renumbered 1 f.clauses }
formula-again f is within =
    let most : max f.variables (greatest_in (clauses_of f.clauses)) ≡ f.variables = omega (arith, greatest-in f.variables (clauses_of f.clauses) within) in
    rw (most, length-map {A = Named} {B = List ℕ}, numbered-again 1 f.clauses is.sets) refl

-- the formula of the empty clause alone
empty-again : (variables : ℕ) → formula_of variables ([] ∷ []) ≡ record { variables = variables; next = 2; clauses = record { number = 1; clause = [] } ∷ [] }
empty-again variables =
    let most : max variables 0 ≡ variables = omega arith in
    rw (most, ← ascending-clause_of [] tt) refl

-- ---- the words of the text

clause-are : (variables : ℕ) (ls : List ℕ) → variables < 2 ^ 32 → IsWithin variables ls → AreWords (clause_line ls)
clause-are variables [] small h = (record { some = omega arith; solid = refl }, tt)
clause-are variables (l ∷ ls) small h =
    let most = (first-within variables l ls h).1 in
    (literal-is_word (is_positive l) (variable_of l) (omega arith), clause-are variables ls small (rest-within variables l ls h))

clauses-are : (variables : ℕ) (clauses : List (List ℕ)) → variables < 2 ^ 32 → All (IsWithin variables) clauses → AreLines (clause_lines clauses)
clauses-are variables [] small h = tt
clauses-are variables (ls ∷ clauses) small h = (clause-are variables ls small (h 0 ls (omega arith)), clauses-are variables clauses small (λ k d low. h (suc k) d (omega arith)))

text-are : (variables n : ℕ) (clauses : List (List ℕ)) → variables < 2 ^ 32 → n < 2 ^ 64 → All (IsWithin variables) clauses → AreLines (header_line variables n ∷ clause_lines clauses)
text-are variables n clauses small low h =
    ((record { some = omega arith; solid = refl }, (record { some = omega arith; solid = refl }, (decimal-is_word variables (omega arith), (decimal-is_word n low, tt)))), clauses-are variables clauses small h)

-- ---- the law

reads-whole : (limits : Limits) (bytes : List ℕ) → length bytes ≤ limits.bytes → reads limits bytes ≡ judged false limits.bytes (document limits false (length bytes) (lines_from 0 bytes))
unfolding reads
reads-whole limits bytes short =
    let test : ltb limits.bytes (length bytes) ≡ false = grind (arith, nat_tests) in
    rw (test, take_all limits.bytes bytes short, drop_all limits.bytes bytes short) refl

-- a text of these clauses
text-read : (limits : Limits) (variables n : ℕ) (clauses : List (List ℕ)) (bytes : List ℕ) → bytes ≡ lines_text (header_line variables n ∷ clause_lines clauses) → length bytes ≤ limits.bytes
    → limits.variables < 2 ^ 32 → n < 2 ^ 64 → variables ≤ limits.variables → length clauses ≤ limits.clauses → sum_by length clauses ≤ limits.literals → All (IsWithin variables) clauses
    → reads limits bytes ≡ Ok (formula_of variables clauses)
text-read limits variables n clauses bytes is short small low within few literals h =
    let lines : lines_from 0 bytes ≡ laid 0 (header_line variables n ∷ clause_lines clauses) = ap (lines_from 0) is ∙ lines_from-printed 0 (header_line variables n ∷ clause_lines clauses) (text-are variables n clauses (omega arith) low h) in
    reads-whole limits bytes short ∙ ap (λ (ls : List Line). judged false limits.bytes (document limits false (length bytes) ls)) lines
    ∙ ap (judged false limits.bytes) (document-read limits variables n (length bytes) clauses small low within few literals h)

-- some clause is there
has_empty-some : (cs : List Named) → has_empty cs ≡ true → 0 < length cs
has_empty-some [] e = absurd cc
has_empty-some (c ∷ cs) e = omega arith

pub cnf-read : ReadsPrinted
cnf-read limits f small numbers is keeps = go (has_empty f.clauses) refl
  where
    empty-within : All (IsWithin f.variables) ([] ∷ [])
    empty-within zero d low = (refl, refl)
    empty-within (suc k) d low = absurd (omega arith)

    chosen : Bool → Result Formula CnfRefusal
    chosen b = Ok (cond b (record { variables = f.variables; next = 2; clauses = record { number = 1; clause = [] } ∷ [] }) (record { variables = f.variables; next = length f.clauses + 1; clauses = renumbered 1 f.clauses }))

    go : (b : Bool) → has_empty f.clauses ≡ b → reads limits (cnf_text f) ≡ Ok (as_printed f)
    go false none =
        let within = All-map (IsWithin f.variables) (λ (c : Named). c.clause) f.clauses is.within in
        let count : length (clauses_of f.clauses) ≡ length f.clauses = length-map f.clauses (λ (c : Named). c.clause) in
        text-read limits f.variables (length f.clauses) (clauses_of f.clauses) (cnf_text f) (cnf-lines f none) keeps.bytes small (omega (arith, keeps.clauses)) keeps.variables (omega (arith, keeps.clauses)) keeps.literals within
        ∙ ap (λ (g : Formula). let o : Result Formula CnfRefusal = Ok g in o) (formula-again f is within)
        ∙ ap chosen (sym none)
    go true some =
        let many = has_empty-some f.clauses some in
        text-read limits f.variables 1 ([] ∷ []) (cnf_text f) (empty-lines f some) keeps.bytes small (omega arith) keeps.variables (omega (arith, keeps.clauses)) (omega arith) empty-within
        ∙ ap (λ (g : Formula). let o : Result Formula CnfRefusal = Ok g in o) (empty-again f.variables)
        ∙ ap chosen (sym some)
