-- The commands: which roles each binds, in which order, and under which names.
use Rattle.std.specs.Prelude.{List, [], ◌∷◌}
use Rattle.cp_io.specs.declared.role.Role.TheVariants.{Cnf, Reduced, Stack, Proof, Model, Full, Summary}
use Rattle.cp_io.specs.declared.role.Way.TheVariants.{In, Out}
use Rattle.cp_words.specs.Words.{Simplify, Extend, Generate}
use Rattle.cp_roles.specs.Bindings.{Binding, bind}

-- the roles of `simplify`, in the order in which they are bound
abbrev pub simplify_bindings : Simplify → List Binding
simplify_bindings o = bind Cnf In o.cnf ∷ (bind Reduced Out o.reduced ∷ (bind Stack Out o.stack ∷ (bind Proof Out o.proof ∷ (bind Summary Out o.summary ∷ []))))

-- of `extend`
abbrev pub extend_bindings : Extend → List Binding
extend_bindings o = bind Stack In o.stack ∷ (bind Model In o.model ∷ (bind Full Out o.full ∷ []))

-- and of `generate`
abbrev pub generate_bindings : Generate → List Binding
generate_bindings o = bind Summary Out o.summary ∷ []
