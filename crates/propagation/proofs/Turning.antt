-- One variable of the queue: the clauses of its chain are looked at.
use Rattle.std.proofs.Common.{◌≡◌, ℕ, suc, refl, ap, ◌+◌, ◌<◌, ◌≤◌, List, length, get_or, ℤ, sym, subst, arith, None, Some, Option, slice_get}
use Rattle.trials.specs.Values.{Value}
use Rattle.std.specs.Option.{ForSome, option_and_then}
use Rattle.std.proofs.lemmas.Option.{get_or_from_slice_get, slice_get_within}
use Rattle.trials.specs.Exist.{Within}
use Rattle.propagation.specs.declared.index.Entry.{Entry}
use Rattle.propagation.specs.Chains.{Chains, no_entry, entry_of, Leads, Falling, Owned, Indexes}
use Rattle.propagation.specs.Waits.{Awake, NoneElse, Ready, against}
use Rattle.propagation.proofs.Steps.{Come}
use Rattle.propagation.proofs.Waiting.{awake_next, against_within}

-- all clauses are calm but those that wait and those of the chain from link on
pub record Turning (cs : List (List ℤ)) (s : Chains) (a : List Value) (us : List ℕ) (from : ℕ) (link : Option ℕ) : Type 0 where
  pub within : Within (length a) cs
  pub indexed : Indexes cs (length a) s
  pub low : from ≤ length us
  pub linked : ForSome link (λ p. p < length s.entries)
  pub awake : Awake cs a us from (λ i. Leads s.entries link i)

pub turning : (cs : List (List ℤ)) (s : Chains) (a : List Value) (ts : List ℕ) (start : ℕ) → Ready cs s a ts start → (b : List Value) (us : List ℕ) (from : ℕ) → Come cs a ts b us → Awake cs b us from NoneElse → from < length us → (v : ℕ) (link : Option ℕ) → slice_get us from ≡ Some v → link ≡ against s v (get_or b v None) → Turning cs s b us (from + 1) link
turning cs s a ts start rd b us from m w l v link named e =
    let ix : Indexes cs (length b) s = subst (λ (z : ℕ). Indexes cs z s) (sym m.back.long) rd.indexed in
    record {
      within = subst (λ (z : ℕ). Within z cs) (sym m.back.long) rd.within;
      indexed = ix;
      low = omega arith;
      linked = subst (λ k. ForSome k (λ p. p < length s.entries)) (sym e) (against_within (length b) s ix.good v (get_or b v None));
      awake = awake_next cs (length b) s ix b us from v link (sym (get_or_from_slice_get us from v 0 named)) e w;
    }

-- how far up the entries a chain is
abbrev pub depth : Option ℕ → ℕ
depth None = 0
depth (Some q) = suc q

pub depth_falls : (es : List Entry) → Falling es → (link : Option ℕ) (x : Entry) → option_and_then (slice_get es) link ≡ Some x → depth x.next < depth link
depth_falls es f None x e = cc
depth_falls es f (Some q) x e = below x.next (subst (λ (z : Entry). ForSome z.next (λ p. p < q)) (get_or_from_slice_get es q x no_entry e) (f q (slice_get_within es q x e)))
  where
    below : (next : Option ℕ) → ForSome next (λ p. p < q) → depth next < suc q
    below None h = omega arith
    below (Some p) h = let k = h p refl in omega arith

pub owner_below : (count : ℕ) (s : Chains) → Owned count s → (link : Option ℕ) (x : Entry) → entry_of s link ≡ Some x → x.owner < count
owner_below count s o None x e = cc
owner_below count s o (Some q) x e = let h = o q (slice_get_within s.entries q x e) in let k = ap (λ (z : Entry). z.owner) (get_or_from_slice_get s.entries q x no_entry e) in omega arith
