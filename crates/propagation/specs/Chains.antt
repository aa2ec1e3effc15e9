-- Chains of entries, one for each literal.
use Rattle.std.specs.Prelude.{◌≡◌, ℕ, suc, ◌<◌, List, [], ◌∷◌, ◌++◌, length, replicate, ℤ, pos, negsuc, None, Some, Option, slice_get, slice_index_or, slice_set}
use Rattle.std.specs.Option.{ForSome, option_and_then}
use Rattle.holder.specs.Widest.{variable}
use Rattle.propagation.specs.declared.index.Entry.{Entry}
use Rattle.propagation.specs.declared.index.Heads.{Heads}

-- where the chains of the literals v and -v begin, at place v, and the entries
pub record Chains : Type 0 where
  pub heads : List Heads
  pub entries : List Entry

-- no chain begins here
abbrev pub no_heads : Heads
no_heads = record { positive = None; negative = None }

abbrev pub no_entry : Entry
no_entry = record { owner = 0; next = None }

abbrev pub heads_at : List Heads → ℕ → Heads
heads_at hs v = slice_index_or hs v no_heads

abbrev pub entry_at : List Entry → ℕ → Entry
entry_at es q = slice_index_or es q no_entry

-- the entry at which a chain goes on, if it does
abbrev pub entry_of : Chains → Option ℕ → Option Entry
entry_of s link = option_and_then (slice_get s.entries) link

-- the chain that goes on at an entry comes to the clause i
pub data Leads (es : List Entry) : Option ℕ → ℕ → Type 0 where
  here : (q i : ℕ) → q < length es → (entry_at es q).owner ≡ i → Leads es (Some q) i
  there : (q i : ℕ) → q < length es → Leads es (entry_at es q).next i → Leads es (Some q) i

-- the entry at which the chain of a literal begins, of those at its variable
abbrev pub begun : Heads → ℤ → Option ℕ
begun h (pos n) = h.positive
begun h (negsuc n) = h.negative

-- the entry at which the chain of a literal begins
abbrev pub head : Chains → ℤ → Option ℕ
head s l = begun (heads_at s.heads (variable l)) l

-- the chain of the literal l comes to the clause i
abbrev pub Lists : Chains → ℤ → ℕ → Type 0
Lists s l i = Leads s.entries (head s l) i

-- the beginnings at a variable, once the chain of its literal begins at the entry q
abbrev pub begins : Heads → ℤ → ℕ → Heads
begins h (pos n) q = record { positive = Some q; negative = h.negative }
begins h (negsuc n) q = record { positive = h.positive; negative = Some q }

-- chains with this entry at the front of its chain
unfoldable pub added : Chains → ℤ → ℕ → Chains
added s l i = record {
  heads = slice_set s.heads (variable l) (begins (heads_at s.heads (variable l)) l (length s.entries));
  entries = s.entries ++ record { owner = i; next = head s l } ∷ [];
}

-- all literals of the clause i
unfoldable pub added_clause : Chains → List ℤ → ℕ → Chains
added_clause s [] i = s
added_clause s (l ∷ c) i = added_clause (added s l i) c i

-- the clauses from number i on
unfoldable pub added_all : Chains → List (List ℤ) → ℕ → Chains
added_all s [] i = s
added_all s (c ∷ cs) i = added_all (added_clause s c i) cs (suc i)

-- no entry
abbrev pub no_chains : ℕ → Chains
no_chains places = record { heads = replicate places no_heads; entries = [] }

-- every chain goes on at an entry before
abbrev pub Falling : List Entry → Type 0
Falling es = (q : ℕ) → q < length es → ForSome (entry_at es q).next (λ p. p < q)

-- every chain begins at one of n entries
abbrev pub Starting : List Heads → ℕ → Type 0
Starting hs n = (v : ℕ) → ForSome (heads_at hs v).positive (λ p. p < n) × ForSome (heads_at hs v).negative (λ p. p < n)

-- chains over literals of the variables below places
pub record Good (places : ℕ) (s : Chains) : Type 0 where
  pub long : length s.heads ≡ places
  pub falling : Falling s.entries
  pub starts : Starting s.heads (length s.entries)

-- every entry is of a clause below count
abbrev pub Owned : ℕ → Chains → Type 0
Owned count s = (q : ℕ) → q < length s.entries → (entry_at s.entries q).owner < count

-- each clause is listed under each of its literals
abbrev pub ListsAll : List (List ℤ) → Chains → Type 0
ListsAll cs s = (i : ℕ) → i < length cs → (k : ℕ) → k < length (slice_index_or cs i []) → Lists s (slice_index_or (slice_index_or cs i []) k (pos 0)) i

-- chains of all clauses, over the variables below places
pub record Indexes (cs : List (List ℤ)) (places : ℕ) (s : Chains) : Type 0 where
  pub good : Good places s
  pub owned : Owned (length cs) s
  pub all : ListsAll cs s
