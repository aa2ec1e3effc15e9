-- What an index holds.
use Rattle.std.specs.Prelude.{vec_items}
use Rattle.propagation.specs.declared.index.Index.{Index}
use Rattle.propagation.specs.Chains.{Chains}

-- the two lists of an index
abbrev pub chains : Index → Chains
chains x = record { heads = vec_items x.heads; entries = vec_items x.entries }
