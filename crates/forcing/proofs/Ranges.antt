-- What `find` answers over a range with its end.
use Rattle.std.proofs.lemmas.Grind.{common_steps}
use Rattle.std.proofs.Common.{◌≡◌, ℕ, ◌+◌, ◌-◌, ◌<◌, ◌≤◌, Bool, true, false, List, ◌∷◌, length, get_or, None, Some, Option, sym, ap, ◌∙◌, subst, arith, MatchOption, Bor}
use Rattle.std.proofs.lemmas.Iterator.{YieldsList, first_from_find}
use Rattle.std.proofs.lemmas.Iterator.Consumers.{YieldsList-from_shown}
use Rattle.std.proofs.lemmas.List.FromFn.{length-range_with_len, get_or-range_with_len}
use Rattle.std.specs.List.{range_with_len, FoldsTo, AllWithin, HoldsAt}
use Rattle.std.specs.Iterator.{YieldsThen}
use Rattle.std.specs.Fn.{CalledAt, Mut}
use Rattle.std.specs.declared.ops.RangeInclusive.{RangeInclusive}
use Rattle.std.specs.Range.{range_inclusive_start, range_inclusive_end, range_inclusive_exhausted, range_inclusive_left, range_inclusive_len, range_inclusive_steps}

abbrev gap : ℕ → ℕ → ℕ
gap x y = y - x

abbrev next : ℕ → ℕ → Type 0
next x y = y ≡ x + 1

abbrev pub steps : RangeInclusive ℕ → Option ℕ → RangeInclusive ℕ → Type 0
steps = range_inclusive_steps gap next

abbrev left : RangeInclusive ℕ → List ℕ
left s = range_with_len (range_inclusive_start s) (range_inclusive_left gap s)

more : (a b m n : ℕ) (done : Bool) → m + 1 ≡ n → (done ≡ true → m ≡ 0) → (done ≡ false → b ≡ a + 1) → range_with_len a n ≡ a ∷ range_with_len b m
more a b m n done h e f = grind (arith, common_steps)

spent : (s : RangeInclusive ℕ) → range_inclusive_exhausted s ≡ true → range_inclusive_left gap s ≡ 0
spent s e = ap (range_inclusive_len gap (range_inclusive_start s) (range_inclusive_end s)) e

pub inclusive_yields : (s : RangeInclusive ℕ) → YieldsList steps (λ x. x) s (left s)
inclusive_yields = YieldsList-from_shown steps (λ x. x) left
    (λ s t h. length-range_with_len (range_inclusive_start s) (range_inclusive_left gap s) ∙ h.1.0)
    (λ s x t h. more (range_inclusive_start s) (range_inclusive_start t) (range_inclusive_left gap t) (range_inclusive_left gap s) (range_inclusive_exhausted t) h.1.1 (spent t) h.1.2 ∙ ap (λ z. z ∷ left t) (sym h.1.0))

module _ {F : Type 0} {g : Mut F (Bor ℕ × Unit {0}) Bool} (s u : RangeInclusive ℕ) (f : F) where
  pub first_from_inclusive : (r : Option ℕ) (Yes No : ℕ → Type 0)
      → (xs : List ℕ) × (j : F) × YieldsThen steps s xs r u × FoldsTo (λ p x q. CalledAt g p x false q) f xs j × MatchOption r (Unit {0}) (λ x. (h : F) × CalledAt g j x true h)
      → ((x : ℕ) (q : F) → CalledAt g f x true q → Yes x) → ((x : ℕ) (q : F) → CalledAt g f x false q → (q ≡ f) × No x)
      → range_inclusive_exhausted s ≡ false
      → MatchOption r ((k : ℕ) → range_inclusive_start s ≤ k → k ≤ range_inclusive_end s → No k) (λ i. (range_inclusive_start s ≤ i) × (i ≤ range_inclusive_end s) × Yes i × ((k : ℕ) → range_inclusive_start s ≤ k → k < i → No k))
  first_from_inclusive r Yes No d yes' no' fresh = by r (first_from_find u f r Yes No d (inclusive_yields s) yes' no')
    where
      n : ℕ
      n = range_inclusive_left gap s

      long : length (left s) ≡ n
      long = length-range_with_len (range_inclusive_start s) n

      count : n ≡ range_inclusive_end s + 1 - range_inclusive_start s
      count = ap (range_inclusive_len gap (range_inclusive_start s) (range_inclusive_end s)) fresh ∙ omega arith

      below : (m : ℕ) → m ≤ n → AllWithin No (left s) 0 m → (k : ℕ) → range_inclusive_start s ≤ k → k < range_inclusive_start s + m → No k
      below m l h k a b = subst No {x = get_or (left s) (k - range_inclusive_start s) 0} {y = k} (omega (arith, get_or-range_with_len (range_inclusive_start s) n (k - range_inclusive_start s) 0 (omega arith))) (h (k - range_inclusive_start s) 0 (omega arith) (omega arith))

      by : (o : Option ℕ) → MatchOption o (AllWithin No (left s) 0 (length (left s))) (λ x. Yes x × (i : ℕ) × (i < length (left s)) × HoldsAt (λ y. y ≡ x) (left s) i × AllWithin No (left s) 0 i)
          → MatchOption o ((k : ℕ) → range_inclusive_start s ≤ k → k ≤ range_inclusive_end s → No k) (λ i. (range_inclusive_start s ≤ i) × (i ≤ range_inclusive_end s) × Yes i × ((k : ℕ) → range_inclusive_start s ≤ k → k < i → No k))
      by None h = λ k a b. below (length (left s)) (omega (arith, long)) h k a (omega (arith, long, count))
      by (Some x) h =
          let i : h.1 < n = omega (arith, long, h.2) in
          let at : x ≡ range_inclusive_start s + h.1 = sym (h.3 0) ∙ get_or-range_with_len (range_inclusive_start s) n h.1 0 i in
          (omega arith, omega (arith, count), h.0, λ k a b. below h.1 (omega arith) h.4 k a (omega arith))
