-- What is listed, as entries are added.
use Rattle.std.proofs.lemmas.Grind.{common_steps}
use Rattle.std.proofs.Common.{◌≡◌, ℕ, zero, suc, ◌+◌, ◌<◌, ◌≤◌, ◌⊎◌, List, [], ◌∷◌, ◌++◌, length, get_or, take, set, ℤ, pos, negsuc, Some, Option, true, false, refl, ap, ◌∙◌, subst, inl, inr, arith, length-set, length-take}
use Rattle.std.proofs.Math.IntN.{ℤ_discrete}
use Rattle.std.proofs.lemmas.Bool.{cases_lt}
use Rattle.std.proofs.lemmas.List.{get_or_append_left, get_or_push, length_push, take_more, get_or-take}
use Rattle.std.specs.Option.{ForSome}
use Rattle.holder.specs.Widest.{variable}
use Rattle.holder.specs.Clauses.{size}
use Rattle.trials.specs.Values.{sign}
use Rattle.trials.specs.Exist.{Within, WithinClause}
use Rattle.propagation.specs.declared.index.Entry.{Entry}
use Rattle.propagation.specs.declared.index.Heads.{Heads}
use Rattle.propagation.specs.Chains.{Chains, no_entry, heads_at, entry_at, Leads, here, there, head, Lists, begins, begun, added, added_clause, added_all, no_chains, Falling, Starting, Good, Owned, Indexes}

leads_more : (es : List Entry) (x : Entry) {from : Option ℕ} {i : ℕ} → Leads es from i → Leads (es ++ x ∷ []) from i
leads_more es x (here q i l e) = here q i (omega (arith, length_push es x)) (rw get_or_append_left e)
leads_more es x (there q i l r) = there q i (omega (arith, length_push es x)) (rw get_or_append_left (leads_more es x r))

-- what is read after one place is set
set_either : (hs : List Heads) (a v : ℕ) (h : Heads) → (v ≡ a) × (heads_at (set hs a h) v ≡ h) ⊎ (heads_at (set hs a h) v ≡ heads_at hs v)
set_either hs a v h = grind (arith, common_steps)

head_other : (s : Chains) (l m : ℤ) (i : ℕ) → (m ≡ l → ⊥) → head (added s l i) m ≡ head s m
unfolding added
head_other s l m i h = grind (arith, common_steps)

head_here : (s : Chains) (l : ℤ) (i : ℕ) → variable l < length s.heads → head (added s l i) l ≡ Some (length s.entries)
unfolding added
head_here s l i h = grind (arith, common_steps)

-- the two lists after one entry more
pub added_is : (s : Chains) {l z : ℤ} (i : ℕ) {v n : ℕ} {old new : Heads} {link : Option ℕ} {es : List Entry} → z ≡ l → v ≡ variable z → old ≡ heads_at s.heads v → n ≡ length s.entries → new ≡ begins old z n → link ≡ begun old z → es ≡ s.entries ++ record { owner = i; next = link } ∷ [] → ◌≡◌ {A = Chains} (record { heads = set s.heads v new; entries = es }) (added s l i)
unfolding added
added_is s i a b c d e f g = cc

pub added_long : (s : Chains) (l : ℤ) (i : ℕ) → (length (added s l i).entries ≡ length s.entries + 1) × (length (added s l i).heads ≡ length s.heads)
unfolding added
added_long s l i = (length_push s.entries _, length-set s.heads (variable l) _)

wider : (o : Option ℕ) (n : ℕ) → ForSome o (λ p. p < n) → ForSome o (λ p. p < n + 1)
wider o n h p e = omega (arith, h p e)

-- a chain of either sign begins within n
abbrev Below : ℕ → Heads → Type 0
Below n h = ForSome h.positive (λ p. p < n) × ForSome h.negative (λ p. p < n)

begins_below : (n : ℕ) (h : Heads) (l : ℤ) → Below n h → Below (n + 1) (begins h l n)
begins_below n h l e = grind (arith, common_steps)

head_below : (s : Chains) (l : ℤ) (n : ℕ) → Starting s.heads n → ForSome (head s l) (λ p. p < n)
head_below s (pos a) n h = (h a).0
head_below s (negsuc a) n h = (h (suc a)).1

module _ (s : Chains) (l : ℤ) (i : ℕ) where
  pub added_starts : Starting s.heads (length s.entries) → Starting (added s l i).heads (length (added s l i).entries)
  unfolding added
  added_starts h v =
      let n = length s.entries in
      let a = variable l in
      let g = begins (heads_at s.heads a) l n in
      rw (length_push s.entries _) (elim (set_either s.heads a v g) [
        | inl k ↦ rw k.1 (begins_below n (heads_at s.heads a) l (h a))
        | inr k ↦ rw k (wider _ n (h v).0, wider _ n (h v).1)
      ])

  new_entry : entry_at (added s l i).entries (length s.entries) ≡ record { owner = i; next = head s l }
  unfolding added
  new_entry = get_or_push s.entries _ no_entry (length s.entries) refl

  old_entry : (q : ℕ) → q < length s.entries → entry_at (added s l i).entries q ≡ entry_at s.entries q
  unfolding added
  old_entry q h = get_or_append_left s.entries _ no_entry q h

  pub added_falling : Starting s.heads (length s.entries) → Falling s.entries → Falling (added s l i).entries
  added_falling h f q w = let a = (added_long s l i).0 in elim (cases_lt q (length s.entries)) [
    | inl b ↦ rw (old_entry q b) (f q b)
    | inr n ↦ (let e : q ≡ length s.entries = omega arith in rw (e, new_entry) (head_below s l (length s.entries) h))
  ]

-- t is s with entries more, of clauses below n
pub record Gains (places n : ℕ) (s t : Chains) : Type 0 where
  pub good : Good places t
  pub grown : (m : ℤ) (j : ℕ) → Lists s m j → Lists t m j
  pub owned : (count : ℕ) → n ≤ count → Owned count s → Owned count t

module _ (s : Chains) (l : ℤ) (i places : ℕ) (good : Good places s) (within : variable l < places) where
  kept_leads : {from : Option ℕ} {j : ℕ} → Leads s.entries from j → Leads (added s l i).entries from j
  unfolding added
  kept_leads r = leads_more s.entries _ r

  new_in : length s.entries < length (added s l i).entries
  new_in = let h = (added_long s l i).0 in omega arith

  pub added_grown : (m : ℤ) (j : ℕ) → Lists s m j → Lists (added s l i) m j
  added_grown m j r = elim (ℤ_discrete m l) [
    | yes e ↦ rw (e, head_here s l i (omega (arith, good.long))) (there (length s.entries) j new_in (rw (new_entry s l i) (subst (λ z. Leads (added s l i).entries (head s z) j) e (kept_leads r))))
    | no ne ↦ rw (head_other s l m i ne) (kept_leads r)
  ]

  pub added_listed : Lists (added s l i) l i
  added_listed = rw (head_here s l i (omega (arith, good.long))) (here (length s.entries) i new_in (ap (λ (z : Entry). z.owner) (new_entry s l i)))

  pub added_good : Good places (added s l i)
  added_good = record { long = (added_long s l i).1 ∙ good.long; falling = added_falling s l i good.starts good.falling; starts = added_starts s l i good.starts }

  pub added_owned : (count : ℕ) → suc i ≤ count → Owned count s → Owned count (added s l i)
  added_owned count h o q k = let a = (added_long s l i).0 in elim (cases_lt q (length s.entries)) [
    | inl b ↦ omega (arith, ap (λ (z : Entry). z.owner) (old_entry s l i q b), o q b)
    | inr n ↦ (let e : q ≡ length s.entries = omega arith in omega (arith, ap (λ (z : ℕ). (entry_at (added s l i).entries z).owner) e, ap (λ (z : Entry). z.owner) (new_entry s l i)))
  ]

  added_gains : Gains places (suc i) s (added s l i)
  added_gains = record { good = added_good; grown = added_grown; owned = added_owned }

gains_none : {places n : ℕ} {s : Chains} → Good places s → Gains places n s s
gains_none g = record { good = g; grown = λ m j r. r; owned = λ count h o. o }

gains_trans : {places m n : ℕ} {s t u : Chains} → m ≤ n → Gains places m s t → Gains places n t u → Gains places n s u
gains_trans l h k = record { good = k.good; grown = λ m j r. k.grown m j (h.grown m j r); owned = λ count e o. k.owned count e (h.owned count (omega arith) o) }

module _ (places : ℕ) where
  pub clause_gains : (s : Chains) (c : List ℤ) (i : ℕ) → Good places s → WithinClause places c → Gains places (suc i) s (added_clause s c i)
  unfolding added_clause
  clause_gains s [] i g w = gains_none g
  clause_gains s (l ∷ c) i g w = let a = added_gains s l i places g w.0 in gains_trans (omega arith) a (clause_gains (added s l i) c i a.good w.1)

  pub clause_listed : (s : Chains) (c : List ℤ) (i : ℕ) → Good places s → WithinClause places c → (k : ℕ) → k < length c → Lists (added_clause s c i) (get_or c k (pos 0)) i
  unfolding added_clause
  clause_listed s [] i g w k h = absurd (let z : ⊥ = omega arith in z)
  clause_listed s (l ∷ c) i g w zero h = (clause_gains (added s l i) c i (added_good s l i places g w.0) w.1).grown l i (added_listed s l i places g w.0)
  clause_listed s (l ∷ c) i g w (suc k) h = clause_listed (added s l i) c i (added_good s l i places g w.0) w.1 k (omega arith)

  pub all_gains : (s : Chains) (cs : List (List ℤ)) (i : ℕ) → Good places s → Within places cs → Gains places (i + length cs) s (added_all s cs i)
  unfolding added_all
  all_gains s [] i g w = gains_none g
  all_gains s (c ∷ cs) i g w =
      let a = clause_gains s c i g (w 0 (omega arith)) in
      let b = all_gains (added_clause s c i) cs (suc i) a.good (λ j h. w (suc j) (omega arith)) in
      gains_trans (omega arith) a (record { good = b.good; grown = b.grown; owned = λ count e o. b.owned count (omega arith) o })

  all_listed : (s : Chains) (cs : List (List ℤ)) (i : ℕ) → Good places s → Within places cs → (j n : ℕ) → n ≡ i + j → j < length cs → (k : ℕ) → k < length (get_or cs j []) → Lists (added_all s cs i) (get_or (get_or cs j []) k (pos 0)) n
  unfolding added_all
  all_listed s [] i g w j n e h k l = absurd (let z : ⊥ = omega arith in z)
  all_listed s (c ∷ cs) i g w zero n e h k l =
      let a = clause_gains s c i g (w 0 (omega arith)) in
      let f : i ≡ n = omega arith in
      (all_gains (added_clause s c i) cs (suc i) a.good (λ j h. w (suc j) (omega arith))).grown _ n (subst (Lists (added_clause s c i) (get_or c k (pos 0))) f (clause_listed s c i g (w 0 (omega arith)) k l))
  all_listed s (c ∷ cs) i g w (suc j) n e h k l = all_listed (added_clause s c i) cs (suc i) (clause_gains s c i g (w 0 (omega arith))).good (λ j h. w (suc j) (omega arith)) j n (omega arith) (omega arith) k l

pub none_good : (places : ℕ) → Good places (no_chains places)
none_good places = grind (arith, common_steps)

pub all_indexes : (places : ℕ) (cs : List (List ℤ)) → Within places cs → Indexes cs places (added_all (no_chains places) cs 0)
all_indexes places cs w =
    let h = all_gains places (no_chains places) cs 0 (none_good places) w in
    record {
      good = h.good;
      owned = h.owned (length cs) (omega arith) (λ q h. absurd (let z : ⊥ = omega arith in z));
      all = λ i h k l. all_listed places (no_chains places) cs 0 (none_good places) w i i (omega arith) h k l;
    }

-- one more at the end
pub clause_push : (s : Chains) (c : List ℤ) (l : ℤ) (i : ℕ) → added_clause s (c ++ l ∷ []) i ≡ added (added_clause s c i) l i
unfolding added_clause
clause_push s [] l i = refl
clause_push s (m ∷ c) l i = clause_push (added s m i) c l i

pub all_push : (s : Chains) (cs : List (List ℤ)) (c : List ℤ) (i : ℕ) → added_all s (cs ++ c ∷ []) i ≡ added_clause (added_all s cs i) c (i + length cs)
unfolding added_all
all_push s [] c i = ap (added_clause s c) (let e : i ≡ i + 0 = omega arith in e)
all_push s (d ∷ cs) c i = all_push (added_clause s d i) cs c (suc i) ∙ ap (added_clause (added_all (added_clause s d i) cs (suc i)) c) (let e : suc i + length cs ≡ i + suc (length cs) = omega arith in e)

-- the next clause of a list
pub all_more : (s : Chains) (cs : List (List ℤ)) (k : ℕ) {n i : ℕ} {c : List ℤ} → n ≡ k + 1 → k < length cs → i ≡ k → c ≡ get_or cs k [] → added_clause (added_all s (take k cs) 0) c i ≡ added_all s (take n cs) 0
all_more s cs k n l e f =
    let q : 0 + length (take k cs) ≡ k = omega (arith, length-take k cs) in
    let t = take_more cs k [] l in
    let p = all_push s (take k cs) (get_or cs k []) 0 in
    cc

pub clause_long : (s : Chains) (c : List ℤ) (i : ℕ) → length (added_clause s c i).entries ≡ length s.entries + length c
unfolding added_clause
clause_long s [] i = omega arith
clause_long s (l ∷ c) i = omega (arith, clause_long (added s l i) c i, (added_long s l i).0)

pub size-take : (cs : List (List ℤ)) (i : ℕ) → i < length cs → size (take i cs) + length (get_or cs i []) ≤ size cs
size-take [] i h = absurd (let z : ⊥ = omega arith in z)
size-take (c ∷ cs) zero h = omega arith
size-take (c ∷ cs) (suc i) h = omega (arith, size-take cs i (omega arith))

pub clause_heads : (s : Chains) (c : List ℤ) (i : ℕ) → length (added_clause s c i).heads ≡ length s.heads
unfolding added_clause
clause_heads s [] i = refl
clause_heads s (l ∷ c) i = clause_heads (added s l i) c i ∙ (added_long s l i).1

pub all_long : (s : Chains) (cs : List (List ℤ)) (i : ℕ) → length (added_all s cs i).entries ≡ length s.entries + size cs
unfolding added_all
all_long s [] i = omega arith
all_long s (c ∷ cs) i = omega (arith, all_long (added_clause s c i) cs (suc i), clause_long s c i)

pub all_within_take : (places : ℕ) (cs : List (List ℤ)) (k : ℕ) → Within places cs → Within places (take k cs)
all_within_take places cs k w i h = let l = length-take k cs in rw (get_or-take k cs i [] (omega arith)) (w i (omega arith))

pub within_at : (n : ℕ) (c : List ℤ) → WithinClause n c → (k : ℕ) → k < length c → variable (get_or c k (pos 0)) < n
within_at n [] w k l = absurd (let z : ⊥ = omega arith in z)
within_at n (x ∷ c) w zero l = w.0
within_at n (x ∷ c) w (suc k) l = within_at n c w.1 k (omega arith)

-- entries of a clause, or of clauses, below count
pub clause_owned : (places count : ℕ) (s : Chains) (c : List ℤ) (i : ℕ) → Good places s → WithinClause places c → i < count → Owned count s → Owned count (added_clause s c i)
clause_owned places count s c i g w h o = (clause_gains places s c i g w).owned count (omega arith) o

within_tail : (places : ℕ) (c : List ℤ) (cs : List (List ℤ)) → Within places (c ∷ cs) → Within places cs
within_tail places c cs w i h = w (suc i) (omega arith)

all_owned : (places count : ℕ) (s : Chains) (cs : List (List ℤ)) (i : ℕ) → Good places s → Within places cs → i + length cs ≤ count → Owned count s → Owned count (added_all s cs i)
all_owned places count s cs i g w h o = (all_gains places s cs i g w).owned count h o

-- nothing is added
pub clause_none : (s : Chains) (i : ℕ) → added_clause s [] i ≡ s
unfolding added_clause
clause_none s i = refl

pub all_none : (s : Chains) (i : ℕ) → added_all s [] i ≡ s
unfolding added_all
all_none s i = refl

pub chains_eq : (hs hs' : List Heads) (es es' : List Entry) → hs ≡ hs' → es ≡ es' → ◌≡◌ {A = Chains} (record { heads = hs; entries = es }) (record { heads = hs'; entries = es' })
chains_eq hs hs' es es' a b = cc

-- the two lists after one entry more, by the sign
pub added_true : (s : Chains) (l : ℤ) (i : ℕ) → Some true ≡ sign l → added s l i ≡ record { heads = set s.heads (variable l) (record { positive = Some (length s.entries); negative = (heads_at s.heads (variable l)).negative }); entries = s.entries ++ record { owner = i; next = (heads_at s.heads (variable l)).positive } ∷ [] }
unfolding added
added_true s (pos n) i e = refl
added_true s (negsuc n) i e = absurd (cc)

pub added_false : (s : Chains) (l : ℤ) (i : ℕ) → Some false ≡ sign l → added s l i ≡ record { heads = set s.heads (variable l) (record { positive = (heads_at s.heads (variable l)).positive; negative = Some (length s.entries) }); entries = s.entries ++ record { owner = i; next = (heads_at s.heads (variable l)).negative } ∷ [] }
unfolding added
added_false s (pos n) i e = absurd (cc)
added_false s (negsuc n) i e = refl

pub within_take : (places : ℕ) (c : List ℤ) (k : ℕ) → WithinClause places c → WithinClause places (take k c)
within_take places c zero w = tt
within_take places [] (suc k) w = tt
within_take places (l ∷ c) (suc k) w = (w.0, within_take places c k w.1)

set_bound : (xs : List ℕ) (n x v top : ℕ) → get_or xs v 0 ≤ top → x ≤ top → get_or (set xs n x) v 0 ≤ top
set_bound xs n x v top h k = grind (arith, common_steps)

-- of one variable: its chains begin within one entry more
added_start : (s : Chains) (l : ℤ) (i v : ℕ) → Below (length s.entries) (heads_at s.heads v) → Below (length s.entries + 1) (heads_at (added s l i).heads v)
unfolding added
added_start s l i v h =
    let n = length s.entries in
    let a = variable l in
    elim (set_either s.heads a v (begins (heads_at s.heads a) l n)) [
      | inl k ↦ rw k.1 (begins_below n (heads_at s.heads a) l (subst (λ z. Below n (heads_at s.heads z)) k.0 h))
      | inr k ↦ rw k (wider _ n h.0, wider _ n h.1)
    ]
