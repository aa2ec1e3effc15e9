-- What a course says of models.
use Rattle.std.proofs.lemmas.Grind.{common_steps}
use Rattle.std.proofs.Common.{◌≡◌, ℕ, zero, suc, ◌+◌, ◌-◌, ◌<◌, ◌≤◌, Bool, true, false, cond, not, T, ◌⊎◌, List, [], ◌∷◌, map, length, get_or, take, drop, replicate, ℤ, pos, negsuc, Some, None, sym, refl, ap, ◌∙◌, subst, inl, inr, arith, length-drop, length-set, length-take}
use lib.ListN.{length-replicate}
use Rattle.std.proofs.lemmas.Bool.{and_parts, or_parts, or_left, or_right, or_cases, both_ways, cases_Bool, not-true}
use Rattle.std.proofs.Math.ListN.{get_or-map}
use Rattle.std.proofs.lemmas.List.{get_or-take, get_or-drop, length-map}
use Rattle.trials.specs.Values.{Value, flip, value, is_true, model_of}
use Rattle.runs.specs.Problems.{Each}
use Rattle.runs.specs.Steps.{any}
use Rattle.runs.specs.Models.{valued, Model}
use Rattle.runs.proofs.Truth.{T-from}
use Rattle.holder.specs.Clauses.{literal_fine, all_fine}
use Rattle.holder.specs.Widest.{variable, widest, widest_of}
use Rattle.trials.specs.Forcing.{live, Forcing, Quiet}
use Rattle.trials.specs.Courses.{Complete, Course, fails, ends, tries, found, ended}
use Rattle.trials.specs.Trials.{Says}
use Rattle.trials.specs.Exist.{open_at}
use Rattle.trials.proofs.Below.{Below, below_set, replicate_at, flip_back, set_not_open}
use Rattle.trials.proofs.Confluence.{along, conflict_below, forcing_long, quiet_maximal, quiet_free}

-- the literals of a clause are over the variables 1 to n
abbrev pub Proper : ℕ → List ℤ → Type 0
Proper n [] = Unit {0}
Proper n (l ∷ c) = (1 ≤ variable l) × (variable l ≤ n) × Proper n c

abbrev pub AllProper : ℕ → List (List ℤ) → Type 0
AllProper n cs = (i : ℕ) → i < length cs → Proper n (get_or cs i [])

literal_low : (l : ℤ) → literal_fine l ≡ true → 1 ≤ variable l
literal_low l h = grind (arith, common_steps)

pub proper : (n : ℕ) (c : List ℤ) → all_fine c ≡ true → widest_of c ≤ n → Proper n c
unfolding widest_of
proper n [] z w = tt
proper n (l ∷ c) z w = let t = and_parts (literal_fine l) (all_fine c) z in (literal_low l t.0, omega arith, proper n c t.1 (omega arith))

pub widest_at : (cs : List (List ℤ)) (i : ℕ) → i < length cs → widest_of (get_or cs i []) ≤ widest cs
unfolding widest
widest_at [] i l = absurd (let w : ⊥ = omega arith in w)
widest_at (c ∷ cs) zero l = omega arith
widest_at (c ∷ cs) (suc i) l = let h = widest_at cs i (omega arith) in omega arith

pub all_proper : (cs : List (List ℤ)) (n : ℕ) → ((i : ℕ) → i < length cs → all_fine (get_or cs i []) ≡ true) → widest cs ≤ n → AllProper n cs
all_proper cs n h w i l = let e = widest_at cs i l in proper n (get_or cs i []) (h i l) (omega arith)

each_at : (m : List Bool) (cs : List (List ℤ)) → Each (λ c. T (any (valued m) c)) cs → (i : ℕ) → i < length cs → any (valued m) (get_or cs i []) ≡ true
each_at m cs h i e = grind (arith, common_steps)

each_from : (m : List Bool) (cs : List (List ℤ)) → ((i : ℕ) → i < length cs → any (valued m) (get_or cs i []) ≡ true) → Each (λ c. T (any (valued m) c)) cs
each_from m [] h = tt
each_from m (c ∷ cs) h = (T-from (any (valued m) c) (h 0 (omega arith)), each_from m cs (λ i l. h (suc i) (omega arith)))

-- what a complete assignment without conflict says, is a model
module _ (n : ℕ) (b : List Value) (full : Complete n b) where
  value_at : (k : ℕ) → 1 ≤ k → k ≤ n → get_or (model_of n b) (k - 1) false ≡ is_true (get_or b k None)
  value_at k l h =
      let e : 1 + (k - 1) ≡ k = omega arith in
      get_or-map is_true (take n (drop 1 b)) (k - 1) None ∙ ap is_true (get_or-take n (drop 1 b) (k - 1) None (omega arith) ∙ get_or-drop 1 b (k - 1) None ∙ ap (λ (z : ℕ). get_or b z None) e)

  true_holds : (l : ℤ) → 1 ≤ variable l → variable l ≤ n → value b l ≡ Some true → valued (model_of n b) l ≡ true
  true_holds (pos k) low high e = value_at k low high ∙ ap is_true e
  true_holds (negsuc k) low high e =
      let f : get_or b (suc k) None ≡ Some false = flip_back (get_or b (suc k) None) (Some true) e in
      let g : suc k - 1 ≡ k = omega arith in
      ap not (ap (λ (z : ℕ). get_or (model_of n b) z false) (sym g) ∙ value_at (suc k) low high ∙ ap is_true f)

  open_not : (l : ℤ) → 1 ≤ variable l → variable l ≤ n → value b l ≡ None → ⊥
  open_not l low high e = full (variable l) low high (open_at b l e)

  clause_head : (l : ℤ) (c : List ℤ) → Proper n (l ∷ c) → ((live b c ≡ [] → ⊥) → any (valued (model_of n b)) c ≡ true) → (live b (l ∷ c) ≡ [] → ⊥) → (x : Value) → value b l ≡ x → any (valued (model_of n b)) (l ∷ c) ≡ true
  unfolding live
  clause_head l c p h alive (Some true) e = or_left _ _ (true_holds l p.0 p.1 e)
  clause_head l c p h alive None e = absurd (open_not l p.0 p.1 e)
  clause_head l c p h alive (Some false) e = or_right _ _ (h (λ d. alive (rw e d)))

  clause_holds : (c : List ℤ) → Proper n c → (live b c ≡ [] → ⊥) → any (valued (model_of n b)) c ≡ true
  unfolding live
  clause_holds [] p alive = absurd (alive refl)
  clause_holds (l ∷ c) p alive = clause_head l c p (clause_holds c p.2) alive (value b l) refl

  pub shows_model : (cs : List (List ℤ)) → AllProper n cs → n < length b → Quiet cs b → Model n cs (model_of n b)
  shows_model cs p long q = record {
    long = length-map (take n (drop 1 b)) is_true ∙ simp (length-take, length-drop) (omega arith);
    each = each_from (model_of n b) cs (λ i h. clause_holds (get_or cs i []) (p i h) (q i h).alive);
  }

-- the assignment that a model stands for
abbrev pub told : Bool → Value
told b = cond b (Some true) (Some false)

abbrev pub of_model : List Bool → List Value
of_model m = None ∷ map told m

module _ (n : ℕ) (m : List Bool) (long : length m ≡ n) where
  told_at : (k : ℕ) → k < n → get_or (of_model m) (suc k) None ≡ told (get_or m k false)
  told_at k l = Rattle.std.proofs.lemmas.List.get_or-map told m k false None (omega arith)

  holds_told : (l : ℤ) → 1 ≤ variable l → variable l ≤ n → valued m l ≡ true → value (of_model m) l ≡ Some true
  holds_told (pos zero) low high h = absurd (let w : ⊥ = omega arith in w)
  holds_told (pos (suc k)) low high h = told_at k (omega arith) ∙ ap told (let g : k ≡ suc k - 1 = omega arith in ap (λ z. get_or m z false) g ∙ h)
  holds_told (negsuc k) low high h = ap flip (told_at k (omega arith) ∙ ap told (not-true _ h))

  told_set : (v : ℕ) → 1 ≤ v → v ≤ n → (get_or (of_model m) v None ≡ Some true) ⊎ (get_or (of_model m) v None ≡ Some false)
  told_set zero low high = absurd (let w : ⊥ = omega arith in w)
  told_set (suc k) low high = elim (cases_Bool (get_or m k false)) [ inl e ↦ inl (told_at k (omega arith) ∙ ap told e) | inr e ↦ inr (told_at k (omega arith) ∙ ap told e) ]

  -- a clause that holds has a literal that is true, so that it is calm
  abbrev Lively : List ℤ → Type 0
  Lively c = (live (of_model m) c ≡ [] → ⊥) × ((l : ℤ) → live (of_model m) c ≡ l ∷ [] → value (of_model m) l ≡ Some true)

  lively_true : (l : ℤ) (c : List ℤ) → value (of_model m) l ≡ Some true → Lively (l ∷ c)
  unfolding live
  lively_true l c e = (λ d. let f = rw e at d in cc, λ k d. let f = rw e at d in let g : l ≡ k = cc in rw (← g) e)

  lively_more : (l : ℤ) (c : List ℤ) → Lively c → (x : Value) → value (of_model m) l ≡ x → Lively (l ∷ c)
  unfolding live
  lively_more l c h x e = grind (arith, common_steps)

  lively : (c : List ℤ) → Proper n c → any (valued m) c ≡ true → Lively c
  lively [] p h = absurd (both_ways false refl h)
  lively (l ∷ c) p h = elim (or_cases _ _ h) [
    | inl e ↦ lively_true l c (holds_told l p.0 p.1 e)
    | inr e ↦ lively_more l c (lively c p.2 e) (value (of_model m) l) refl
  ]

  module _ (cs : List (List ℤ)) (p : AllProper n cs) (h : Each (λ c. T (any (valued m) c)) cs) where
    model_quiet : Quiet cs (of_model m)
    model_quiet i l =
        let t = lively (get_or cs i []) (p i l) (each_at m cs h i l) in
        record { alive = t.0; still = λ k e o. set_not_open (sym (t.1 k e) ∙ o) }

    kept_below : {a b : List Value} → Forcing cs a b → Below a (of_model m) → Below b (of_model m)
    kept_below f less = elim (along cs (of_model m) (quiet_maximal cs (of_model m) model_quiet) f less) [ inl k ↦ k | inr c ↦ absurd (quiet_free cs (of_model m) model_quiet c) ]

    -- a model that agrees with the start is found
    pub agrees_found : {a : List Value} (q : Course cs n a) → Below a (of_model m) → found q ≡ false → ⊥
    unfolding found
    agrees_found (fails b f c) less e = quiet_free cs (of_model m) model_quiet (conflict_below cs b (of_model m) (kept_below f less) c)
    agrees_found (ends b f q k) less e = both_ways true e refl
    agrees_found (tries b v f q o t u) less e =
        let r = or_parts _ _ e in
        let k = kept_below f less in
        elim (told_set v o.low o.high) [
          | inl y ↦ agrees_found t (below_set b (of_model m) v (Some true) k y) r.0
          | inr y ↦ agrees_found u (below_set b (of_model m) v (Some false) k y) r.1
        ]

pub blank_below : (k : ℕ) (b : List Value) → Below (replicate k None) b
blank_below k b v x e s = absurd (s (sym e ∙ replicate_at k v None))

-- a search that finds nothing
pub no_model : (cs : List (List ℤ)) (n : ℕ) → AllProper n cs → (k : ℕ) (q : Course cs n (replicate k None)) → found q ≡ false → (m : List Bool) → Model n cs m → ⊥
no_model cs n p k q e m h = agrees_found n m h.long cs p h.each q (blank_below k (of_model m)) e

-- the assignment that a search ends in
pub ended_model : (cs : List (List ℤ)) (n : ℕ) → AllProper n cs → {a : List Value} (q : Course cs n a) → n < length a → (found q ≡ true → (b : List Value) × (ended q ≡ Some b) × Model n cs (model_of n b)) × (found q ≡ false → ended q ≡ None)
unfolding found ended
ended_model cs n p (fails b f c) l = (λ e. absurd (both_ways false refl e), λ e. refl)
ended_model cs n p (ends b f q k) l = (λ e. (b, refl, shows_model n b k cs p (let g = forcing_long cs f in omega arith) q), λ e. absurd (both_ways true e refl))
ended_model cs n p (tries b v f q o t u) l =
    let g = forcing_long cs f in
    let x = ended_model cs n p t (let j = length-set b v (Some true) in omega arith) in
    let y = ended_model cs n p u (let j = length-set b v (Some false) in omega arith) in
    elim (cases_Bool (found t)) [
      | inl e ↦ (λ _. rw e (x.0 e), λ h. absurd (both_ways (found t) (or_parts _ _ h).0 e))
      | inr e ↦ (λ h. rw e (y.0 (rw e at h)), λ h. rw e (y.1 (rw e at h)))
    ]

pub says : (cs : List (List ℤ)) (n : ℕ) → AllProper n cs → (k : ℕ) → n < k → (q : Course cs n (replicate k None)) → Says n cs (ended q)
says cs n p k l q =
    let r = ended_model cs n p q (let j = length-replicate {A = Value} k None in omega arith) in
    elim (cases_Bool (found q)) [
      | inl e ↦ let w = r.0 e in subst (Says n cs) (sym w.1) w.2
      | inr e ↦ subst (Says n cs) (sym (r.1 e)) (no_model cs n p k q e)
    ]
