use Rattle.std.proofs.Common.{◌≡◌, ℕ, ◌∷◌, [], ◌++◌, length, length-take, length-set, sym, ◌∙◌, ap, arith}
use Rattle.sdb_format.specs.Numbers.{be32}
use Rattle.sdb_record.specs.Journals.{be64}
use Rattle.sdb_journal.specs.Appends.{body_of}
use Rattle.sdb_journal.proofs.AppendLemmas.{body_size, frame_end}
use Rattle.sdb_journal.proofs.frame.fill.Goals as goal

pub returns : goal.returns
returns c =
    let frame = c.args.frame.now in
    (λ k. (c.copy_from_slice.ensures.after ∙ c.record_head.ensures) k ++ frame_end frame c.requires.least k)
    ∙ ap (λ n. be32 n ++ (be64 c.args.number ++ (body_of frame ++ (0 ∷ [])))) (sym (body_size frame c.requires.least))

pub copy_from_slice-requires : goal.copy_from_slice-requires
copy_from_slice-requires c =
    let size : length c.record_head.result ≡ 12 = ap length c.record_head.ensures in
    omega (arith, size, c.requires.least, length-take {A = ℕ}, length-set {A = ℕ})
