-- Reading accepts exactly the bytes that lay out a problem. Assumes nothing.
use Rattle.std.proofs.Common.{◌≡◌, ℕ, List, [], ◌∷◌, ◌++◌, refl, append_assoc, arith}
use Rattle.refusals.specs.Limits.{most_facts}
use Rattle.runs.specs.Problems.{Problem}
use Rattle.file_format.specs.Reading.{opened}
use Rattle.file_format.specs.Layout.{field_bytes, file_bytes, LaysOut}
use Rattle.file_format.specs.Theorems.{Accepts}
use Rattle.file_format.proofs.Faults.{fact_iff}
use Rattle.file_format.proofs.Opening.{Opens, opens_from, reads_open}
use Rattle.file_format.proofs.Fit.{Fit, proper_iff}
use Rattle.file_format.proofs.Laid.{table_bytes, laid, fit_end, grows_laid}

-- a file is its first two fields, and those of its tables
file_parts : (p : Problem) (labels : List (List ℕ)) → field_bytes 1 (p.facts ∷ []) ++ (field_bytes 2 p.start ++ table_bytes p.axioms p.rules labels p.goals) ≡ file_bytes p labels
file_parts p labels = simp append_assoc

module _ (q : Problem) (bs : List ℕ) where
  -- tables as they are opened
  fit_opened : (o : Opens q bs) → Fit (opened o.number o.start)
  fit_opened o = grind (arith, fact_iff most_facts o.number)

  lays_out : Opens q bs → LaysOut bs q
  lays_out o =
      let k = laid o.grows in
      record {
        labels = k.2;
        a_label_each = cc;
        fine = k.4.fine;
        proper = (proper_iff q).0 (fit_end o.grows (λ h. refl) (fit_opened o));
        bytes = grind (arith, file_parts q k.2);
      }

  opens_laid : LaysOut bs q → Opens q bs
  opens_laid l =
      let f = (proper_iff q).1 l.proper in
      let rest = table_bytes q.axioms q.rules l.labels q.goals in
      record {
        number = q.facts;
        start = q.start;
        rest = rest;
        bytes = cc (file_parts q l.labels);
        facts = (fact_iff most_facts q.facts).1 (f.0.some_facts, f.0.facts);
        listed = f.0.start;
        grows = grows_laid q f.0 f.1 3 (opened q.facts q.start) rest q.axioms q.rules l.labels q.goals (omega arith) (grind arith);
      }

pub accepts : Accepts
accepts bs b q = (λ e. lays_out q bs (opens_from q bs b e), λ l. reads_open q bs (opens_laid q bs l))
