use Rattle.std.proofs.Common.{◌<◌, length, take, drop, sym, ap, ◌∙◌, arith}
use Rattle.std.proofs.lemmas.Grind.{common_steps}
use Rattle.std.proofs.lemmas.List.{take_rest}
use Rattle.sdb_disk.proofs.ContentLemmas.{contents-at, contents-set, contents-set_other}
use Rattle.sdb_disk.proofs.edits.cut_file.Goals as goal

pub returns-clause-ok : goal.returns-clause-ok
returns-clause-ok c =
    let within : c.args.file < length c.args.files.now = omega (arith, c.told-files, c.requires.file) in (
      c.in_ok-was.was',
      grind (arith, common_steps),
      record {
        now = contents-set _ _ _ within ∙ c.truncate.ensures.items ∙ ap (take c.args.len) (sym (contents-at _ _ _ within));
        kept = c.in_ok-was.ensures ∙ take_rest _ c.args.len ∙ ap (drop c.args.len) (c.as_slice-content.ensures.value ∙ sym (contents-at _ _ _ within));
        others = λ k other. contents-set_other _ _ _ _ other;
      },
    )
