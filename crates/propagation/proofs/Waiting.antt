-- What a variable that is set leaves of the clauses that wait.
use Rattle.std.proofs.lemmas.Grind.{common_steps}
use Rattle.std.proofs.Common.{◌≡◌, ℕ, suc, ◌+◌, ◌<◌, ◌≤◌, ◌⊎◌, List, [], ◌∷◌, ◌++◌, length, get_or, set, ℤ, pos, sym, refl, ap, ◌∙◌, subst, inl, inr, arith, None, Some, true, false, Option, slice_get}
use Rattle.std.proofs.lemmas.Bool.{cases_eq}
use Rattle.std.proofs.lemmas.List.{get_or_append_left, get_or_push, get_or-set_same, length_push}
use Rattle.holder.specs.Widest.{variable}
use Rattle.trials.specs.Values.{Value, value, is_false, sign}
use Rattle.trials.specs.Forcing.{live, Calm, Quiet}
use Rattle.trials.specs.Exist.{open_at}
use Rattle.trials.proofs.Below.{Below, below_put, below_value, set_not_open, live_below}
use Rattle.forcing.proofs.Judging.{calm_set}
use Rattle.std.proofs.lemmas.Option.{slice_get-get_or, get_or_from_slice_get}
use Rattle.std.specs.Option.{ForSome, option_and_then}
use Rattle.propagation.specs.declared.index.Entry.{Entry}
use Rattle.propagation.specs.Chains.{Chains, no_entry, entry_at, Leads, here, there, head, Good, Indexes}
use Rattle.propagation.specs.Waits.{Watched, calm, waits, other, Awake, NoneElse, against}

open_back : (b d : List Value) → Below b d → (l : ℤ) → value d l ≡ None → (x : Value) → value b l ≡ x → value b l ≡ None
open_back b d h l e x f = grind (arith, common_steps)

calm_kept : (b d : List Value) (c : List ℤ) → Below b d → live d c ≡ live b c → Calm b c → Calm d c
calm_kept b d c less e k = record { alive = λ z. k.alive (sym e ∙ z); still = λ l z o. k.still l (sym e ∙ z) (open_back b d less l o (value b l) refl) }

value_open : (b : List Value) (l : ℤ) → get_or b (variable l) None ≡ None → value b l ≡ None
value_open b l h = grind (arith, common_steps)

value_other : (b : List Value) (v : ℕ) (x : Value) (l : ℤ) → (variable l ≡ v → ⊥) → value (set b v x) l ≡ value b l
value_other b v x l h = grind (arith, common_steps)

-- a literal of the clause that v made false
pub record Touched (d : List Value) (v : ℕ) (c : List ℤ) : Type 0 where
  pub place : ℕ
  pub within : place < length c
  pub named : variable (get_or c place (pos 0)) ≡ v
  pub dead : value d (get_or c place (pos 0)) ≡ Some false

module _ (b : List Value) (v : ℕ) (x : Value) (o : get_or b v None ≡ None) where
  -- such a literal, or the same are left
  abbrev Met : List ℤ → Type 0
  Met c = Touched (set b v x) v c ⊎ (live (set b v x) c ≡ live b c)

  met_more : (l : ℤ) (c : List ℤ) → is_false (value (set b v x) l) ≡ is_false (value b l) → Met c → Met (l ∷ c)
  unfolding live
  met_more l c f (inl t) = inl (record { place = suc t.place; within = omega (arith, t.within); named = t.named; dead = t.dead })
  met_more l c f (inr e) = inr (rw (f, e))

  met_at : (l : ℤ) (c : List ℤ) → variable l ≡ v → Met c → (y : Value) → value (set b v x) l ≡ y → Met (l ∷ c)
  met_at l c n r None e = met_more l c (ap is_false (e ∙ sym (value_open b l (rw n o)))) r
  met_at l c n r (Some true) e = met_more l c (ap is_false e ∙ sym (ap is_false (value_open b l (rw n o)))) r
  met_at l c n r (Some false) e = inl (record { place = 0; within = omega arith; named = n; dead = e })

  met : (c : List ℤ) → Met c
  unfolding live
  met [] = inr refl
  met (l ∷ c) = elim (cases_eq (variable l) v) [
    | inl e ↦ met_at l c e (met c) (value (set b v x) l) refl
    | inr ne ↦ met_more l c (ap is_false (value_other b v x l ne)) (met c)
  ]

  pub watched_put : (c : List ℤ) (us : List ℕ) (from : ℕ) (E : Type 0) → from ≤ length us → Watched c b us from E → Watched c (set b v x) (us ++ v ∷ []) from E
  watched_put c us from E h (other e) = other e
  watched_put c us from E h (calm k) = elim (met c) [
    | inl t ↦ waits (record { at = length us; low = h; high = omega (arith, length_push us v); place = t.place; within = t.within; named = t.named ∙ sym (get_or_push us v 0 (length us) refl); dead = t.dead })
    | inr e ↦ calm (calm_kept b (set b v x) c (below_put b v x o) e k)
  ]
  watched_put c us from E h (waits w) = waits (record {
    at = w.at;
    low = w.low;
    high = omega (arith, length_push us v, w.high);
    place = w.place;
    within = w.within;
    named = w.named ∙ sym (get_or_append_left us (v ∷ []) 0 w.at w.high);
    dead = below_value b (set b v x) (below_put b v x o) (get_or c w.place (pos 0)) (Some false) w.dead set_not_open;
  })

true_sign : (b : List Value) (l : ℤ) → get_or b (variable l) None ≡ sign l → value b l ≡ Some true
true_sign b l h = grind (arith, common_steps)

-- after forcing by itself a clause is calm
pub forced_calm : (b : List Value) (c : List ℤ) (l : ℤ) (v : ℕ) (x : Value) → live b c ≡ l ∷ [] → value b l ≡ None → v ≡ variable l → x ≡ sign l → v < length b → Calm (set b v x) c
unfolding live
forced_calm b c l v x alone opened n s w =
    let t = true_sign (set b v x) l (rw (← n) (get_or-set_same b v x None w ∙ s)) in
    let e : live (set b v x) c ≡ l ∷ [] = sym (live_below b (set b v x) (below_put b v x (rw n (open_at b l opened))) c) ∙ ap (live (set b v x)) alone ∙ rw t in
    calm_set (set b v x) c l (omega (arith, ap length e)) (sym (ap (λ z. get_or z 0 l) e)) (λ o. set_not_open (sym t ∙ o))

-- the chain of the literal that v made false
against_is : (s : Chains) (b : List Value) (l : ℤ) (v : ℕ) → variable l ≡ v → value b l ≡ Some false → head s l ≡ against s v (get_or b v None)
against_is s b l v h e = grind (arith, common_steps)

module _ (cs : List (List ℤ)) (places : ℕ) (s : Chains) (ix : Indexes cs places s) (b : List Value) (us : List ℕ) where
  -- the clauses that wait for the variable at `from` stand in one chain
  pub awake_next : (from v : ℕ) (entry : Option ℕ) → v ≡ get_or us from 0 → entry ≡ against s v (get_or b v None) → Awake cs b us from NoneElse → Awake cs b us (from + 1) (λ i. Leads s.entries entry i)
  awake_next from v entry n e a i h = elim (a i h) [
    | calm k ↦ calm k
    | other z ↦ absurd z
    | waits w ↦ elim (cases_eq w.at from) [
      | inl z ↦ other (subst (λ k. Leads s.entries k i) (against_is s b (get_or (get_or cs i []) w.place (pos 0)) v (w.named ∙ ap (λ k. get_or us k 0) z ∙ sym n) w.dead ∙ sym e) (ix.all i h w.place w.within))
      | inr ne ↦ waits (record { at = w.at; low = omega (arith, w.low); high = w.high; place = w.place; within = w.within; named = w.named; dead = w.dead })
    ]
  ]

leads_cases : (es : List Entry) {link : Option ℕ} {i : ℕ} → Leads es link i → (q : ℕ) × (link ≡ Some q) × (q < length es) × (((entry_at es q).owner ≡ i) ⊎ Leads es (entry_at es q).next i)
leads_cases es (here q i l e) = (q, refl, l, inl e)
leads_cases es (there q i l r) = (q, refl, l, inr r)

module _ (cs : List (List ℤ)) (es : List Entry) (b : List Value) (us : List ℕ) (from : ℕ) where
  -- a chain that is at its end
  pub awake_end : (link : Option ℕ) → option_and_then (slice_get es) link ≡ None → Awake cs b us from (λ i. Leads es link i) → Awake cs b us from NoneElse
  awake_end link e a i h = elim (a i h) [
    | calm k ↦ calm k
    | waits w ↦ waits w
    | other r ↦ (let t = leads_cases es r in let z : Some (get_or es t.0 no_entry) ≡ None = sym (slice_get-get_or es t.0 no_entry t.2) ∙ sym (ap (option_and_then (slice_get es)) t.1) ∙ e in cc)
  ]

  -- the first clause of the chain is calm
  pub awake_visited : (link : Option ℕ) (x : Entry) → option_and_then (slice_get es) link ≡ Some x → Calm b (get_or cs x.owner []) → Awake cs b us from (λ i. Leads es link i) → Awake cs b us from (λ i. Leads es x.next i)
  awake_visited link x e k a i h = elim (a i h) [
    | calm c ↦ calm c
    | waits w ↦ waits w
    | other r ↦
        let t = leads_cases es r in
        let at : entry_at es t.0 ≡ x = get_or_from_slice_get es t.0 x no_entry (sym (ap (option_and_then (slice_get es)) t.1) ∙ e) in
        elim t.3 [
          | inl o ↦ calm (subst (λ z. Calm b (get_or cs z [])) (sym (ap (λ (z : Entry). z.owner) at) ∙ o) k)
          | inr n ↦ other (subst (λ z. Leads es z.next i) at n)
        ]
  ]

  pub awake_quiet : length us ≤ from → Awake cs b us from NoneElse → Quiet cs b
  awake_quiet h e f g = grind (arith, common_steps)

module _ (b : List Value) (v : ℕ) (x : Value) (o : get_or b v None ≡ None) (c : List ℤ) (us : List ℕ) (from : ℕ) (E : Type 0) where
  pub calm_put : from ≤ length us → Calm b c → Watched c (set b v x) (us ++ v ∷ []) from E
  calm_put h k = watched_put b v x o c us from E h (calm k)

pub awake_put : (cs : List (List ℤ)) (b : List Value) (us : List ℕ) (from v : ℕ) (x : Value) (E : ℕ → Type 0) → get_or b v None ≡ None → from ≤ length us → Awake cs b us from E → Awake cs (set b v x) (us ++ v ∷ []) from E
awake_put cs b us from v x E o l a i h = watched_put b v x o (get_or cs i []) us from (E i) l (a i h)

pub quiet_put : (cs : List (List ℤ)) (b : List Value) (us : List ℕ) (v : ℕ) (x : Value) → get_or b v None ≡ None → Quiet cs b → Awake cs (set b v x) (us ++ v ∷ []) (length us) NoneElse
quiet_put cs b us v x o q i h = calm_put b v x o (get_or cs i []) us (length us) ⊥ (omega arith) (q i h)

-- a chain begins within the entries
pub against_within : (places : ℕ) (s : Chains) → Good places s → (v : ℕ) (x : Value) → ForSome (against s v x) (λ p. p < length s.entries)
against_within places s g v None p e = absurd (cc)
against_within places s g v (Some true) p e = (g.starts v).1 p e
against_within places s g v (Some false) p e = (g.starts v).0 p e
