-- The meaning of a value of any type that is a theory.
--
--   meaning  the ghost members of the trait, gathered into one record
use Rattle.theory.specs.declared.Theory.{Ghosts}
use Rattle.theory.specs.Theory.{Meaning}

abbrev pub meaning : {X : Type 0} → Ghosts X → X → Meaning
meaning g t = record { facts = g.facts t; places = g.places t; rule = g.rule t; opposite = g.opposite t; models = g.models t; truth = g.truth t }
