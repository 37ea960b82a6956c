-- The commands: which texts each writes, in which order.
use Rattle.std.specs.Prelude.{ℕ, List, [], ◌∷◌, Bool, Option, length}
use Rattle.cp_io.specs.declared.role.Role.TheVariants.{Reduced, Stack, Proof, Full, Summary}
use Rattle.cp_logic.specs.declared.settings.Form.{Form}
use Rattle.cp_logic.specs.declared.stop.Stop.{Stop}
use Rattle.cp_logic.specs.Assignments.{Pair}
use Rattle.cp_logic.specs.Formulas.{Formula}
use Rattle.cp_logic.specs.Journals.{Post}
use Rattle.cp_dimacs.specs.Cnf.{cnf_text}
use Rattle.cp_drat.specs.Log.{log_of}
use Rattle.cp_drat.specs.Text.{log_text}
use Rattle.cp_extend.specs.ModelText.{model_text}
use Rattle.cp_stack.specs.Text.{stack_text}
use Rattle.cp_summary.specs.declared.sizes.Sizes.{Sizes}
use Rattle.cp_summary.specs.Text.{summary_text}
use Rattle.cp_top.specs.Status.{status_of}
use Rattle.cp_roles.specs.Texts.{Written, write}

-- what is told of a run: how large its formula was, what is left, what was posted, the number of pairs, and why it stopped
abbrev pub summary_of : Sizes → List Post → List Pair → Formula → Option Stop → List ℕ
summary_of sizes posts pairs left stopped = summary_text sizes left posts (length pairs) stopped (status_of left)

-- what `simplify` writes, in its order: the log of the posts, the pairs over so many variables, what is left, and the summary
abbrev pub simplify_texts : Form → ℕ → Sizes → List Post → List Pair → Formula → Option Stop → List Written
simplify_texts form variables sizes posts pairs left stopped =
    write Proof (log_text form (log_of posts)) ∷ (write Stack (stack_text variables pairs)
    ∷ (write Reduced (cnf_text left) ∷ (write Summary (summary_of sizes posts pairs left stopped) ∷ [])))

-- what `extend` writes: the model
abbrev pub extend_texts : List Bool → List Written
extend_texts values = write Full (model_text values) ∷ []

-- what `generate` writes: the summary
abbrev pub generate_texts : Sizes → List Post → List Pair → Formula → Option Stop → List Written
generate_texts sizes posts pairs left stopped = write Summary (summary_of sizes posts pairs left stopped) ∷ []
