-- The text of a proof log, in either form of DRAT: in the text form each number is written in digits, in the binary one in groups of bits.
use Rattle.std.specs.Prelude.{ℕ, zero, suc, ◌+◌, ◌-◌, ◌*◌, ◌/◌, ◌%◌, ◌≡◌, nat_lt, List, [], ◌∷◌, ◌++◌, flat_map, codes, if◌then◌else◌}
use Rattle.cp_logic.specs.declared.settings.Form.{Form}
use Rattle.cp_logic.specs.declared.settings.Form.TheVariants.{Text, Binary}
use Rattle.cp_io.specs.Signed.{signed_text}
use Rattle.cp_logic.specs.Literals.{variable_of, is_positive, IsLiteral}
use Rattle.cp_drat.specs.Log.{Item, Lemma, Deletion}

-- the number in groups of seven bits, the low group first, of which all but the last have the high bit set; at most `more` groups
-- stand before the last
unfoldable pub groups : ℕ → ℕ → List ℕ
groups zero n = n ∷ []
groups (suc more) n = if nat_lt n 128 then n ∷ [] else (n % 128 + 128) ∷ groups more (n / 128)

-- the code of a literal, which is below 2^28
abbrev pub code_bytes : ℕ → List ℕ
code_bytes l = groups 3 l

-- a literal of a clause
unfoldable pub literal_text : Form → ℕ → List ℕ
literal_text Text l = signed_text (is_positive l) (variable_of l)
literal_text Binary l = code_bytes l

-- what stands behind the literals
unfoldable pub end_text : Form → List ℕ
end_text Text = codes "0\n"
end_text Binary = 0 ∷ []

-- the literals by ascending order, and the end
abbrev pub clause_text : Form → List ℕ → List ℕ
clause_text form clause = flat_map (literal_text form) clause ++ end_text form

-- what stands before the literals of a lemma
unfoldable pub lemma_text : Form → List ℕ
lemma_text Text = []
lemma_text Binary = codes "a"

-- and before those of a deletion
unfoldable pub deletion_text : Form → List ℕ
deletion_text Text = codes "d "
deletion_text Binary = codes "d"

-- a lemma or a deletion with its clause
abbrev pub item_text : Form → Item → List ℕ
item_text form (Lemma clause) = lemma_text form ++ clause_text form clause
item_text form (Deletion clause) = deletion_text form ++ clause_text form clause

-- the items from the first to the last
abbrev pub log_text : Form → List Item → List ℕ
log_text form items = flat_map (item_text form) items

-- the number whose groups stand in front, and the bytes behind them
abbrev pub read_groups : List ℕ → ℕ × List ℕ
read_groups [] = (0, [])
read_groups (b ∷ bs) = if nat_lt b 128 then (b, bs) else (b - 128 + 128 * (read_groups bs).0, (read_groups bs).1)

-- whatever follows it, a literal in binary is read back
abbrev pub CodesAreRead : Type 0
CodesAreRead = (l : ℕ) (behind : List ℕ) → IsLiteral l → read_groups (code_bytes l ++ behind) ≡ (l, behind)
