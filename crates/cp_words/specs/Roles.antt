-- A role of the code as one of the definitions.
use Rattle.cp_words.specs.declared.names.NamedRole.{NamedRole}
use Rattle.cp_words.specs.Names.{Named}

abbrev pub named : NamedRole → Named
named role = record { name = role.name.now; is_input = role.is_input }
