use Rattle.std.proofs.Common.{◌&&◌, sym, ap, ◌∙◌, length, rules, tests}
use Rattle.std.proofs.lemmas.Bool.{le-leb}
use Rattle.std.proofs.lemmas.Iterator.{YieldsList-from_slice}
use Rattle.std.proofs.lemmas.Iterator.Search.{all_from_yields_List}
use Rattle.refusals.specs.Limits.{longest_label}
use Rattle.problem.specs.Lists.{every}
use Rattle.problem.proofs.Tests.{every_is}
use Rattle.file_format.specs.Fields.{visible}
use Rattle.problem_file.proofs.labels.is_label.Goals as goal

pub returns-then-label-le-LONGEST_LABEL : goal.returns-then-label-le-LONGEST_LABEL
returns-then-label-le-LONGEST_LABEL c =
    let l = c.args.label.now in
    all_from_yields_List visible _ _ _ c.all.ensures.ran (YieldsList-from_slice l cc) (λ x b q k. search (rules, tests)) ∙ every_is visible l ∙ ap (λ b. b && every visible l) (sym (le-leb (length l) longest_label c.if-label-le-LONGEST_LABEL.true))
