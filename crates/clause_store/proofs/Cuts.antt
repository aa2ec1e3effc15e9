-- Clauses that lie one after another: one more, fewer, and one of them.
use Rattle.std.specs.Prelude.{◌≡◌, ℕ, zero, suc, ◌+◌, ◌-◌, ◌<◌, ◌≤◌, true, List, [], ◌∷◌, ◌++◌, length, take, drop, ℤ, slice_index, get_or, slice_index_or, refl}
use Rattle.std.proofs.Common.{sym, ap, ◌∙◌, sub-one, arith, length-drop}
use Rattle.std.proofs.lemmas.Bool.{and_from, le-leb, eqb-true, eq-eqb}
use Rattle.std.proofs.lemmas.Bool.Decides.{nat_tests}
use Rattle.std.proofs.lemmas.List.{get_or_past, get_or_read, length_push, take-append-le, drop-append-le, drop_at, take_all, take-take}
use Rattle.std.proofs.lemmas.Slice.{between_is}
use Rattle.holder.specs.Clauses.{size}
use Rattle.clause_store.proofs.Named.{fine_push}
use Rattle.clause_store.specs.Flat.{cut_up, ordered, end_of}
use Rattle.clause_store.specs.Sizes.{ordered_below, ordered_head, length-cut_up, size-cut_up}

pub ordered_push : (s : ℕ) (es : List ℕ) (n m : ℕ) → ordered s es n ≡ true → n ≤ m → ordered s (es ++ m ∷ []) m ≡ true
unfolding ordered
ordered_push s [] n m h l = let e = eqb-true s n h in and_from _ _ (le-leb s m (omega arith)) (eq-eqb m m refl)
ordered_push s (e ∷ es) n m h l = let t = ordered_head s e es n h in and_from _ _ (le-leb s e t.0) (ordered_push e es n m t.2 l)

-- one clause more
pub cut_up-push : (s : ℕ) (es : List ℕ) (xs c : List ℤ) (n : ℕ) → ordered s es (length xs) ≡ true → n ≡ length xs + length c → cut_up s (es ++ n ∷ []) (xs ++ c) ≡ cut_up s es xs ++ c ∷ []
unfolding cut_up ordered
cut_up-push s [] xs c n h e =
    let z = eqb-true s (length xs) h in
    ap (λ x. x ∷ []) (ap (take (n - s)) (drop_at xs c s (sym z)) ∙ take_all (n - s) c (omega arith))
cut_up-push s (f ∷ es) xs c n h e =
    let t = ordered_head s f es (length xs) h in
    let p : take (f - s) (drop s (xs ++ c)) ≡ take (f - s) (drop s xs) =
    ap (take (f - s)) (drop-append-le s xs c (omega arith)) ∙ take-append-le (f - s) (drop s xs) c (simp length-drop (omega arith)) in
    cc (cut_up-push f es xs c n t.2 e)

pub end_between : (s n : ℕ) (es : List ℕ) (m : ℕ) → ordered s es m ≡ true → (s ≤ end_of s n es) × (end_of s n es ≤ m)
unfolding end_of
end_between s zero es m h = (omega arith, ordered_below s es m h)
end_between s (suc n) [] m h = (omega arith, ordered_below s [] m h)
end_between s (suc n) (e ∷ es) m h =
    let t = ordered_head s e es m h in
    let r = end_between e n es m t.2 in
    (omega arith, r.1)

pub ordered_take : (s n : ℕ) (es : List ℕ) (m : ℕ) → ordered s es m ≡ true → ordered s (take n es) (end_of s n es) ≡ true
unfolding end_of ordered
ordered_take s zero es m h = eq-eqb s s refl
ordered_take s (suc n) [] m h = eq-eqb s s refl
ordered_take s (suc n) (e ∷ es) m h = let t = ordered_head s e es m h in and_from _ _ (le-leb s e t.0) (ordered_take e n es m t.2)

-- the first n clauses
pub cut_up-take : (s n : ℕ) (es : List ℕ) (xs : List ℤ) (m : ℕ) → ordered s es (length xs) ≡ true → end_of s n es ≤ m → cut_up s (take n es) (take m xs) ≡ take n (cut_up s es xs)
unfolding end_of cut_up
cut_up-take s zero es xs m h l = refl
cut_up-take s (suc n) [] xs m h l = refl
cut_up-take s (suc n) (e ∷ es) xs m h l =
    let t = ordered_head s e es (length xs) h in
    let a = end_between e n es (length xs) t.2 in
    let p : take (e - s) (drop s (take m xs)) ≡ take (e - s) (drop s xs) =
    between_is (take m xs) s e ∙ ap (drop s) (take-take e m xs (omega arith)) ∙ sym (between_is xs s e) in
    cc (cut_up-take e n es xs m t.2 l)

pub end_of_none : (es : List ℕ) → end_of 0 0 es ≡ 0
unfolding end_of
end_of_none es = refl

pub end_of_suc : (s n : ℕ) (es : List ℕ) (d : ℕ) → n < length es → end_of s (suc n) es ≡ get_or es n d
unfolding end_of
end_of_suc s n [] d l = absurd (omega arith)
end_of_suc s zero (e ∷ es) d l = refl
end_of_suc s (suc n) (e ∷ es) d l = end_of_suc e n es d (omega arith)

pub end_of_some : (n : ℕ) (es : List ℕ) → 0 < n → n ≤ length es → end_of 0 n es ≡ get_or es (n - 1) 0
end_of_some zero es p l = absurd (omega arith)
end_of_some (suc n) es p l = rw sub-one (end_of_suc 0 n es 0 (omega arith))

-- the clause at i
pub cut_up_at : (s i : ℕ) (es : List ℕ) (xs : List ℤ) → i < length es → slice_index_or (cut_up s es xs) i [] ≡ take (slice_index es i - end_of s i es) (drop (end_of s i es) xs)
unfolding cut_up end_of
cut_up_at s i [] xs l = absurd (omega arith)
cut_up_at s zero (e ∷ es) xs l = refl
cut_up_at s (suc i) (e ∷ es) xs l = cut_up_at e i es xs (omega arith)

pub end_step : (s i : ℕ) (es : List ℕ) (m : ℕ) → ordered s es m ≡ true → i < length es → (end_of s i es ≤ slice_index es i) × (slice_index es i ≤ m)
unfolding end_of
end_step s i [] m h l = absurd (omega arith)
end_step s zero (e ∷ es) m h l = let t = ordered_head s e es m h in (t.0, t.1)
end_step s (suc i) (e ∷ es) m h l = end_step e i es m (ordered_head s e es m h).2 (omega arith)

pub size-push : (cs : List (List ℤ)) (c : List ℤ) → size (cs ++ c ∷ []) ≡ size cs + length c
size-push [] c = omega arith
size-push (d ∷ cs) c = let h = size-push cs c in omega arith

pub ruleset sizes = (length-cut_up, size-cut_up)

pub ruleset taking = (nat_tests, length_push, size-push, length-cut_up, size-cut_up, cut_up-push, ordered_push, fine_push)

pub ruleset cutting = (nat_tests, length-cut_up, size-cut_up, cut_up-take, end_between)

pub ruleset places = (cut_up_at, end_step, length-cut_up, get_or_past)

pub ruleset ends = (end_of_none, end_of_some, get_or_read)

-- nothing held
pub ordered_start : ordered 0 [] 0 ≡ true
unfolding ordered
ordered_start = refl

pub cut_up_none : (xs : List ℤ) → cut_up 0 [] xs ≡ []
unfolding cut_up
cut_up_none xs = refl
