-- Every search has a course.
use Rattle.std.specs.Prelude.{◌≡◌, ℕ, zero, suc, ◌<◌, ◌≤◌, true, false, cond, ◌⊎◌, List, [], ◌∷◌, length, ℤ, pos, negsuc, ◌≢◌, slice_index_or, slice_set, refl, None, Some}
use Rattle.std.proofs.Common.{sym, ap, subst, ◌∙◌, inl, inr, arith, length-set}
use Rattle.std.proofs.lemmas.Bool.{cases_eq}
use Rattle.trials.specs.Values.{Value, flip, value, is_false, sign, holding, opens}
use Rattle.holder.specs.Widest.{variable, widest_of, widest}
use Rattle.trials.specs.Forcing.{live, Conflict, Forced, Forcing, rest, next, Calm, Quiet}
use Rattle.trials.specs.Courses.{FirstOpen, Complete, Course, fails, ends, tries}

-- one clause
pub data Judged (a : List Value) (c : List ℤ) : Type 0 where
  dead : live a c ≡ [] → Judged a c
  alone : (l : ℤ) → live a c ≡ l ∷ [] → value a l ≡ None → Judged a c
  calm : Calm a c → Judged a c

judge_one : (a : List Value) (c : List ℤ) (l : ℤ) → live a c ≡ l ∷ [] → (x : Value) → value a l ≡ x → Judged a c
judge_one a c l e None v = alone l e v
judge_one a c l e (Some b) v = calm (record {
  alive = λ d. cc;
  still = λ m f o. let s : l ≡ m = cc in let z : Some b ≡ None = cc in cc;
})

judge_live : (a : List Value) (c ls : List ℤ) → live a c ≡ ls → Judged a c
judge_live a c [] e = dead e
judge_live a c (l ∷ []) e = judge_one a c l e (value a l) refl
judge_live a c (l ∷ m ∷ ls) e = calm (record {
  alive = λ d. cc;
  still = λ k f o. cc;
})

pub judge : (a : List Value) (c : List ℤ) → Judged a c
judge a c = judge_live a c (live a c) refl

-- all clauses
pub data Outlook (cs : List (List ℤ)) (a : List Value) (n : ℕ) : Type 0 where
  conflict : Conflict cs a → Outlook cs a n
  forced : (l : ℤ) → Forced cs a l → Outlook cs a n
  quiet : ((i : ℕ) → i < n → Calm a (slice_index_or cs i [])) → Outlook cs a n

module _ (cs : List (List ℤ)) (a : List Value) where
  last_clause : (n : ℕ) → n < length cs → ((i : ℕ) → i < n → Calm a (slice_index_or cs i [])) → Judged a (slice_index_or cs n []) → Outlook cs a (suc n)
  last_clause n h q (dead e) = conflict (record { clause = n; held = h; dead = e })
  last_clause n h q (alone l e o) = forced l (record { clause = n; held = h; alone = e; opened = o })
  last_clause n h q (calm k) = quiet (λ i less. elim (cases_eq i n) [ inl e ↦ subst (λ (z : ℕ). Calm a (slice_index_or cs z [])) (sym e) k | inr ne ↦ q i (omega arith) ])

  more_clauses : (n : ℕ) → n < length cs → Outlook cs a n → Outlook cs a (suc n)
  more_clauses n h (conflict c) = conflict c
  more_clauses n h (forced l f) = forced l f
  more_clauses n h (quiet q) = last_clause n h q (judge a (slice_index_or cs n []))

  pub look : (n : ℕ) → n ≤ length cs → Outlook cs a n
  look zero h = quiet (λ i less. absurd (let w : ⊥ = omega arith in w))
  look (suc n) h = more_clauses n (omega arith) (look n (omega arith))

-- the variables of the clauses are below n
abbrev pub WithinClause : ℕ → List ℤ → Type 0
WithinClause n [] = Unit {0}
WithinClause n (l ∷ c) = (variable l < n) × WithinClause n c

-- the variables of all clauses are below n
abbrev pub Within : ℕ → List (List ℤ) → Type 0
Within n cs = (i : ℕ) → i < length cs → WithinClause n (slice_index_or cs i [])

within_live : (n : ℕ) (a : List Value) (c : List ℤ) → WithinClause n c → WithinClause n (live a c)
unfolding live
within_live n a [] w = w
within_live n a (l ∷ c) w = elim (is_false (value a l)) as (λ b. WithinClause n (cond b (live a c) (l ∷ live a c))) [ true ↦ within_live n a c w.1 | false ↦ (w.0, within_live n a c w.1) ]

pub forced_within : (n : ℕ) (cs : List (List ℤ)) (a : List Value) (l : ℤ) → Within n cs → Forced cs a l → variable l < n
forced_within n cs a l w f = (subst (WithinClause n) f.alone (within_live n a (slice_index_or cs f.clause []) (w f.clause f.held))).0

-- one variable fewer is open
pub opens_set : (a : List Value) (v : ℕ) (x : Value) → v < length a → slice_index_or a v None ≡ None → (x ≢ None) → opens a ≡ suc (opens (slice_set a v x))
unfolding opens
opens_set [] v x h e s = absurd (let w : ⊥ = omega arith in w)
opens_set (None ∷ a) zero None h e s = absurd (s refl)
opens_set (None ∷ a) zero (Some b) h e s = refl
opens_set (Some b ∷ a) zero x h e s = cc
opens_set (None ∷ a) (suc v) x h e s = ap suc (opens_set a v x (omega arith) e s)
opens_set (Some b ∷ a) (suc v) x h e s = opens_set a v x (omega arith) e s

pub sign_set : (l : ℤ) → sign l ≢ None
sign_set (pos n) e = cc
sign_set (negsuc n) e = cc

pub flip_open : (x : Value) → flip x ≡ None → x ≡ None
flip_open None e = refl
flip_open (Some b) e = cc

pub open_at : (a : List Value) (l : ℤ) → value a l ≡ None → slice_index_or a (variable l) None ≡ None
open_at a (pos n) e = e
open_at a (negsuc n) e = flip_open (slice_index_or a (suc n) None) e

-- where forcing from a leads
pub record Led (cs : List (List ℤ)) (a : List Value) : Type 0 where
  pub to : List Value
  pub run : Forcing cs a to
  pub fewer : opens to ≤ opens a
  pub long : length to ≡ length a
  pub how : Conflict cs to ⊎ Quiet cs to

module _ (cs : List (List ℤ)) where
  lead_forced : (a : List Value) (l : ℤ) → variable l < length a → Forced cs a l → Led cs (holding a l) → Led cs a
  lead_forced a l h f r =
      let o = opens_set a (variable l) (sign l) h (open_at a l f.opened) (sign_set l) in
      record { to = r.to; run = next l f r.run; fewer = omega (arith, r.fewer); long = r.long ∙ length-set a (variable l) (sign l); how = r.how }

  pub lead : (fuel : ℕ) (a : List Value) → opens a < fuel → Within (length a) cs → Led cs a
  lead zero a h w = absurd (let z : ⊥ = omega arith in z)
  lead (suc fuel) a h w = elim (look cs a (length cs) (omega arith)) [
    | conflict c ↦ record { to = a; run = rest; fewer = omega arith; long = refl; how = inl c }
    | quiet q ↦ record { to = a; run = rest; fewer = omega arith; long = refl; how = inr q }
    | forced l f ↦
        let v = forced_within (length a) cs a l w f in
        let o = opens_set a (variable l) (sign l) v (open_at a l f.opened) (sign_set l) in
        lead_forced a l v f (lead fuel (holding a l) (omega arith) (subst (λ n. Within n cs) (sym (length-set a (variable l) (sign l))) w))
  ]

-- the smallest open variable, if there is one
pub data Pick (n : ℕ) (a : List Value) : Type 0 where
  all_set : Complete n a → Pick n a
  first : (v : ℕ) → FirstOpen n a v → Pick n a

value_set : (x : Value) → (x ≡ None) ⊎ (x ≢ None)
value_set None = inl refl
value_set (Some b) = inr (λ e. cc)

pick_more : (n : ℕ) (a : List Value) → Pick n a → (slice_index_or a (suc n) None ≡ None) ⊎ (slice_index_or a (suc n) None ≢ None) → Pick (suc n) a
pick_more n a (first v f) x = first v (record { low = f.low; high = omega (arith, f.high); opened = f.opened; before = f.before })
pick_more n a (all_set c) (inl e) = first (suc n) (record { low = omega arith; high = omega arith; opened = e; before = λ w l h o. c w l (omega arith) o })
pick_more n a (all_set c) (inr s) = all_set (λ w l h o. elim (cases_eq w (suc n)) [ inl e ↦ s (subst (λ (k : ℕ). slice_index_or a k None ≡ None) e o) | inr ne ↦ c w l (omega arith) o ])

pub pick : (n : ℕ) (a : List Value) → Pick n a
pick zero a = all_set (λ w l h o. omega arith)
pick (suc n) a = pick_more n a (pick n a) (value_set (slice_index_or a (suc n) None))

module _ (cs : List (List ℤ)) (n : ℕ) where
  course_on : (a : List Value) → (r : Led cs a) → n < length a → Pick n r.to → ((v : ℕ) → FirstOpen n r.to v → Course cs n (slice_set r.to v (Some true))) → ((v : ℕ) → FirstOpen n r.to v → Course cs n (slice_set r.to v (Some false))) → Quiet cs r.to → Course cs n a
  course_on a r h (all_set c) t u q = ends r.to r.run q c
  course_on a r h (first v f) t u q = tries r.to v r.run q f (t v f) (u v f)

  pub course : (fuel : ℕ) (a : List Value) → opens a < fuel → n < length a → Within (length a) cs → Course cs n a
  course zero a h l w = absurd (let z : ⊥ = omega arith in z)
  course (suc fuel) a h l w =
      let r = lead cs (suc fuel) a h w in
      let o = r.fewer in
      let g = r.long in
      let further : (x : Value) → (x ≢ None) → (v : ℕ) → FirstOpen n r.to v → Course cs n (slice_set r.to v x) =
      (λ x s v f. let k = opens_set r.to v x (omega (arith, f.high)) f.opened s in
      let m : length (slice_set r.to v x) ≡ length a = length-set r.to v x ∙ g in
      course fuel (slice_set r.to v x) (omega arith) (omega arith) (subst (λ z. Within z cs) (sym m) w)) in
      elim r.how [
        | inl c ↦ fails r.to r.run c
        | inr q ↦ course_on a r l (pick n r.to) (further (Some true) (λ e. cc)) (further (Some false) (λ e. cc)) q
      ]

within_of : (c : List ℤ) (n : ℕ) → widest_of c < n → WithinClause n c
unfolding widest_of
within_of [] n h = tt
within_of (l ∷ c) n h = (omega arith, within_of c n (omega arith))

pub within_all : (cs : List (List ℤ)) (n : ℕ) → widest cs < n → Within n cs
unfolding widest
within_all [] n h i l = absurd (let w : ⊥ = omega arith in w)
within_all (c ∷ cs) n h zero l = within_of c n (omega arith)
within_all (c ∷ cs) n h (suc i) l = within_all cs n (omega arith) i (omega arith)
