-- Regular files, which are told apart by their nodes, and the streams of the process.
use Rattle.std.specs.Prelude.{◌==◌, ◌&&◌, ◌||◌, Bool, true, false, Option, None, Some}
use Rattle.std.specs.Option.{option_map_or}
use Rattle.cp_io.specs.declared.role.Way.{Way}
use Rattle.cp_io.specs.declared.role.Way.TheVariants.{In, Out}
use Rattle.cp_io.specs.declared.streams.Node.{Node}

-- two nodes are those of one file
abbrev pub same_node : Node → Node → Bool
same_node m n = (m.device == n.device) && (m.inode == n.inode)

abbrev pub is_out : Way → Bool
is_out In = false
is_out Out = true

-- A role that is bound in the first way, to the file of the first node if it has one, keeps a role from being bound in the second way
-- to the file of the second node: it is one file, and one of the two roles is written.
abbrev pub bars : Option Way → Option Node → Way → Node → Bool
bars bound (Some held) way node = same_node held node && (is_out way || option_map_or is_out bound false)
bars bound None way node = false
