-- Where a sweep stands, and what its next search does. A variable is touched where the last search at it gave an entry, or where its
-- clauses changed since then; at first each is whose cell isn't known to be silent. The mark is the variable of the last search, 1 at first.
use Rattle.std.specs.Prelude.{ℕ, ◌+◌, nat_le, Bool, false, Option, None, Some, List, [], ◌∷◌, ◌++◌, map, length, slice_set, if◌then◌else◌}
use Rattle.std.specs.List.{flat_map}
use Rattle.cp_logic.specs.declared.named.Named.{Named}
use Rattle.cp_logic.specs.declared.settings.Rules.{Rules}
use Rattle.cp_logic.specs.declared.stop.Stop.{Stop}
use Rattle.cp_logic.specs.declared.stop.Stop.TheVariants.{Spent, Numbers, Refuted}
use Rattle.cp_logic.specs.Literals.{variable_of}
use Rattle.cp_logic.specs.Formulas.{Formula, has_empty}
use Rattle.cp_logic.specs.Entries.{Entry, gone_clauses, new_clauses}
use Rattle.cp_logic.specs.Legality.{first}
use Rattle.cp_logic.specs.Journals.{Post, folded, commits, number_limit}
use Rattle.cp_logic.specs.Sweeps.{is_spent}
use Rattle.cp_sweep.specs.Marks.{with_marks}

pub record Cursor : Type 0 where
  pub posts : List Post
  pub mark : ℕ
  pub touched : List Bool

-- the formula that its posts leave
abbrev pub left_at : Formula → Cursor → Formula
left_at f c = (folded f c.posts).formula

-- the entry as the sweep posts it
abbrev pub sweep_post : Entry → Post
sweep_post e = record { worker = 0; round = 0; entry = e }

-- the variables of clauses, as often as they stand there; and those whose clauses the entry changes
abbrev pub variables_at : Named → List ℕ
variables_at c = map variable_of c.clause

abbrev pub variables_through : List Named → List ℕ
variables_through cs = flat_map variables_at cs

abbrev pub touched_by : Entry → List ℕ
touched_by e = variables_through (gone_clauses e) ++ variables_through (new_clauses e)

-- the cursor at a next variable
abbrev pub moved : Cursor → ℕ → Cursor
moved c x = record { posts = c.posts; mark = x; touched = c.touched }

-- the cursor after a post of the entry at its mark, and after a search there that gave nothing
abbrev pub after_post : Cursor → Entry → Cursor
after_post c e = record { posts = c.posts ++ sweep_post e ∷ []; mark = c.mark; touched = with_marks c.touched (touched_by e) }

abbrev pub after_nothing : Cursor → Cursor
after_nothing c = record { posts = c.posts; mark = c.mark; touched = slice_set c.touched c.mark false }

-- what a step comes to: why the sweep stops there, if it does, and the cursor after it
pub record Turn : Type 0 where
  pub stop : Option Stop
  pub cursor : Cursor

-- the turn for what the search at the mark gave: an entry that needs a number past the limit stops the sweep
abbrev pub turn_for : Formula → Cursor → Option Entry → Turn
turn_for left c None = record { stop = None; cursor = after_nothing c }
turn_for left c (Some e) =
    if nat_le (left.next + length (new_clauses e)) number_limit then record { stop = None; cursor = after_post c e }
    else record { stop = Some Numbers; cursor = c }

-- the turn of a sweep of the formula at its mark
abbrev pub next_turn : Formula → Rules → Cursor → Turn
next_turn f rules c =
    if has_empty (left_at f c).clauses then record { stop = Some Refuted; cursor = c }
    else (if is_spent rules (commits c.posts) then record { stop = Some Spent; cursor = c }
    else turn_for (left_at f c) c (first (left_at f c) rules c.mark))
