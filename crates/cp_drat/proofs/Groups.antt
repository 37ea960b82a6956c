-- Numbers in groups of seven bits.
use Rattle.std.proofs.Common.{◌≡◌, ℕ, zero, suc, ◌+◌, ◌-◌, ◌*◌, ◌/◌, ◌%◌, ◌<◌, ◌≤◌, cond, List, [], ◌∷◌, ◌++◌, refl, ◌∙◌, ap, inl, inr, arith}
use Rattle.std.proofs.lemmas.Bool.{cases_lt, lt-ltb, le-ltb}
use Rattle.cp_drat.specs.Text.{groups, read_groups, CodesAreRead}

-- a number below 128 is one group
pub groups-last : (more n : ℕ) → n < 128 → groups more n ≡ n ∷ []
unfolding groups
groups-last zero n h = refl
groups-last (suc more) n h = ap (λ b. cond b (n ∷ []) ((n % 128 + 128) ∷ groups more (n / 128))) (lt-ltb n 128 h)

-- and of another the lowest group stands in front
pub groups-next : (more n : ℕ) → 128 ≤ n → groups (suc more) n ≡ (n % 128 + 128) ∷ groups more (n / 128)
unfolding groups
groups-next more n h = ap (λ b. cond b (n ∷ []) ((n % 128 + 128) ∷ groups more (n / 128))) (le-ltb n 128 h)

read-last : (n : ℕ) (behind : List ℕ) → n < 128 → read_groups (n ∷ behind) ≡ (n, behind)
read-last n behind h = ap (λ b. cond b (n, behind) (n - 128 + 128 * (read_groups behind).0, (read_groups behind).1)) (lt-ltb n 128 h)

read-next : (low n : ℕ) (bytes behind : List ℕ) → read_groups bytes ≡ (n, behind) → read_groups ((low + 128) ∷ bytes) ≡ (low + 128 * n, behind)
read-next low n bytes behind is =
    ap (λ b. cond b (low + 128, bytes) (low + 128 - 128 + 128 * (read_groups bytes).0, (read_groups bytes).1)) (le-ltb (low + 128) 128 (omega arith))
    ∙ ap (λ (r : ℕ × List ℕ). (low + 128 - 128 + 128 * r.0, r.1)) is
    ∙ ap (λ (k : ℕ). (k, behind)) (omega arith)

-- the first number that has more than so many groups before its last
unfoldable pub limit : ℕ → ℕ
limit zero = 128
limit (suc more) = 128 * limit more

pub limit-zero : limit 0 ≡ 128
unfolding limit
limit-zero = refl

pub limit-more : (more n : ℕ) → n < limit (suc more) → n / 128 < limit more
unfolding limit
limit-more more n h = omega arith

read-groups : (more n : ℕ) (behind : List ℕ) → n < limit more → read_groups (groups more n ++ behind) ≡ (n, behind)
unfolding limit
read-groups zero n behind h = ap (λ bs. read_groups (bs ++ behind)) (groups-last zero n h) ∙ read-last n behind h
read-groups (suc more) n behind h = elim (cases_lt n 128) [
  | inl less ↦ ap (λ bs. read_groups (bs ++ behind)) (groups-last (suc more) n less) ∙ read-last n behind less
  | inr not_less ↦ ap (λ bs. read_groups (bs ++ behind)) (groups-next more n not_less)
      ∙ read-next (n % 128) (n / 128) (groups more (n / 128) ++ behind) behind (read-groups more (n / 128) behind (limit-more more n h))
      ∙ ap (λ (k : ℕ). (k, behind)) (omega arith)
]

pub code-below : (l : ℕ) → l < 4000002 → l < limit 3
unfolding limit
code-below l h = omega arith

pub codes-read : CodesAreRead
codes-read l behind literal = read-groups 3 l behind (code-below l literal.1)
