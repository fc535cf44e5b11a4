use Rattle.std.proofs.Common.{◌≡◌, ◌-◌, [], ◌∷◌, ◌++◌, length, take, vec_len, ap, ◌∙◌, arith, rules}
use Rattle.sdb_store.proofs.FrameLemmas.{put_entries_are, put_size}
use Rattle.sdb_store.proofs.frame.put_entries.Goals as goal

pub returns-clause-entries : goal.returns-clause-entries
returns-clause-entries c =
    let frame = c.args.frame.now in
    let size : c.len.result ≡ length frame.items = search rules in
    put_entries_are frame.items c.args.entries.now c.put-2.new.frame.items (omega (arith, size, c.len.ensures, c.requires.least))
    (c.put-2.ensures.items ∙ ap (λ l. l ++ (0 ∷ [])) (c.put.ensures.items ∙ ap (λ l. l ++ c.args.entries.now) (c.truncate.ensures.items ∙ ap (λ n. take (n - 1) frame.items) size)))

pub returns-clause-size : goal.returns-clause-size
returns-clause-size c =
    let frame = c.args.frame.now in
    let size : c.len.result ≡ length frame.items = search rules in
    put_size frame.items c.args.entries.now c.put-2.new.frame.items (omega (arith, size, c.len.ensures, c.requires.least))
    (c.put-2.ensures.items ∙ ap (λ l. l ++ (0 ∷ [])) (c.put.ensures.items ∙ ap (λ l. l ++ c.args.entries.now) (c.truncate.ensures.items ∙ ap (λ n. take (n - 1) frame.items) size)))
