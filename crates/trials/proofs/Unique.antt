-- All courses from one assignment make the same trials, find the same and end in the same assignment.
use Rattle.std.proofs.lemmas.Grind.{common_steps}
use Rattle.std.proofs.Common.{arith, ◌≡◌, ℕ, ◌+◌, true, false, cond, ◌||◌, List, get_or, set, ℤ, Some, None, sym, refl, ap, subst}
use Rattle.trials.specs.Values.{Value}
use Rattle.trials.specs.Forcing.{Conflict, Forcing, Quiet}
use Rattle.trials.specs.Courses.{FirstOpen, Complete, Course, fails, ends, tries, found, tried, ended}
use Rattle.trials.proofs.Confluence.{same_end, same_conflict, quiet_maximal, quiet_free}

pub first_same : (n : ℕ) (a : List Value) (v w : ℕ) → FirstOpen n a v → FirstOpen n a w → v ≡ w
first_same n a v w h e = grind (arith, common_steps)

module _ (cs : List (List ℤ)) (n : ℕ) where
  -- a course that tries v after it has come to b
  pub record Split (a b : List Value) (v : ℕ) (p : Course cs n a) : Type 0 where
    pub on : Course cs n (set b v (Some true))
    pub off : Course cs n (set b v (Some false))
    pub finds : found p ≡ (found on || found off)
    pub counts : tried p ≡ cond (found on) (1 + tried on) (2 + (tried on + tried off))
    pub comes : ended p ≡ cond (found on) (ended on) (ended off)

  module _ {a : List Value} (b : List Value) (f : Forcing cs a b) where
    no_conflict : (b' : List Value) → Forcing cs a b' → Conflict cs b' → Quiet cs b → ⊥
    no_conflict b' f' c q = quiet_free cs b q (same_conflict cs a b' b f' c f (quiet_maximal cs b q))

    conflict_only : Conflict cs b → (b' : List Value) → Forcing cs a b' → Quiet cs b' → ⊥
    conflict_only c b' f' q = quiet_free cs b' q (same_conflict cs a b b' f c f' (quiet_maximal cs b' q))

    pub failed : Conflict cs b → (p : Course cs n a) → (found p ≡ false) × (tried p ≡ 0) × (ended p ≡ None)
    unfolding found tried ended
    failed c (fails b' f' c') = (refl, refl, refl)
    failed c (ends b' f' q e) = absurd (conflict_only c b' f' q)
    failed c (tries b' v f' q o t u) = absurd (conflict_only c b' f' q)

    pub finished : Quiet cs b → Complete n b → (p : Course cs n a) → (found p ≡ true) × (tried p ≡ 0) × (ended p ≡ Some b)
    unfolding found tried ended
    finished q e (fails b' f' c) = absurd (no_conflict b' f' c q)
    finished q e (ends b' f' q' e') = (refl, refl, ap Some (same_end cs a b' b f' q' f q))
    finished q e (tries b' v f' q' o t u) =
        let s = same_end cs a b' b f' q' f q in
        absurd (e v o.low o.high (subst (λ (z : List Value). get_or z v None ≡ None) s o.opened))

    pub split : Quiet cs b → (v : ℕ) → FirstOpen n b v → (p : Course cs n a) → Split a b v p
    unfolding found tried ended
    split q v o (fails b' f' c) = absurd (no_conflict b' f' c q)
    split q v o (ends b' f' q' e) =
        let s = same_end cs a b' b f' q' f q in
        absurd (e v o.low o.high (subst (λ (z : List Value). get_or z v None ≡ None) (sym s) o.opened))
    split q v o (tries b' v' f' q' o' t u) =
        let p : Course cs n a = tries b' v' f' q' o' t u in
        let s = same_end cs a b' b f' q' f q in
        let k = first_same n b v' v (subst (λ (z : List Value). FirstOpen n z v') s o') o in
        let here : Split a b' v' p = record { on = t; off = u; finds = refl; counts = refl; comes = refl } in
        subst (λ (z : ℕ). Split a b z p) k (subst (λ (z : List Value). Split a z v' p) s here)

  pub one_course : {a : List Value} (p q : Course cs n a) → (found p ≡ found q) × (tried p ≡ tried q)
  unfolding found tried
  one_course (fails b f c) q = let r = failed b f c q in (sym r.0, sym r.1)
  one_course (ends b f k e) q = let r = finished b f k e q in (sym r.0, sym r.1)
  one_course (tries b v f k o t u) q =
      let s = split b f k v o q in
      let i = one_course t s.on in
      let j = one_course u s.off in
      (cc (i.0, j.0, s.finds), cc (i.0, i.1, j.1, s.counts))

  pub one_end : {a : List Value} (p q : Course cs n a) → ended p ≡ ended q
  unfolding ended
  one_end (fails b f c) q = sym (failed b f c q).2
  one_end (ends b f k e) q = sym (finished b f k e q).2
  one_end (tries b v f k o t u) q =
      let s = split b f k v o q in
      cc ((one_course t s.on).0, one_end t s.on, one_end u s.off, s.comes)
