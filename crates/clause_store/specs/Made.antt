-- What the clause store holds.
use Rattle.std.specs.Prelude.{true, vec_items}
use Rattle.holder.specs.Clauses.{Stood, Rest}
use Rattle.clause_store.specs.Flat.{cut_up}
use Rattle.clause_store.specs.declared.store.Store.{Store}

-- a plain holder settles nothing: the rest is always the same
abbrev pub no_rest : Rest
no_rest = record { allowance = 0; reach = λ _ _ _. true }

abbrev pub stood_of : Store → Stood
stood_of s = record { held = cut_up 0 (vec_items s.ends) (vec_items s.literals); limits = s.most; rest = no_rest }
