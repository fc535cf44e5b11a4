use Rattle.std.proofs.Common.{◌<◌, length, take, drop, sym, ap, ◌∙◌, arith, slice_index_or}
use Rattle.std.proofs.lemmas.Grind.{common_steps}
use Rattle.sdb_disk.specs.Disk.{overlaid}
use Rattle.sdb_disk.proofs.ContentLemmas.{contents-at, contents-set, contents-set_other, contents-set_same, on_err}
use Rattle.sdb_disk.proofs.edits.write_file.Goals as goal

pub overlay-requires : goal.overlay-requires
overlay-requires c =
    let within : c.args.file < length c.args.files.now = omega (arith, c.told-files, c.requires.file) in
    let file = slice_index_or c.args.files.now c.args.file c.index-files-place-2.result in
    omega (arith, c.requires.within, file.ok.0, ap length (contents-at c.args.files.now c.args.file c.index-files-place-2.result within))

pub returns-in_err-overlay-clause-same_files : goal.returns-in_err-overlay-clause-same_files
returns-in_err-overlay-clause-same_files c =
    let within : c.args.file < length c.args.files.now = omega (arith, c.told-files, c.requires.file) in
    on_err c.from_residual-in_err-overlay.result (contents-set_same c.args.files.now c.args.file _ c.index-files-place-2.result within c.in_err-overlay.ensures.err)

pub returns-clause-ok : goal.returns-clause-ok
returns-clause-ok c =
    let within : c.args.file < length c.args.files.now = omega (arith, c.told-files, c.requires.file) in (
      c.in_ok-was.was',
      grind (arith, common_steps),
      record {
        now = contents-set _ _ _ within ∙ c.in_ok-overlay.ensures.ok ∙ ap (λ l. overlaid l c.args.at c.args.bytes.now) (sym (contents-at _ _ _ within));
        kept = c.in_ok-was.ensures ∙ ap (λ l. take (length c.args.bytes.now) (drop c.args.at l)) (c.deref.ensures.value ∙ sym (contents-at _ _ _ within));
        others = λ k other. contents-set_other _ _ _ _ other;
      },
    )
