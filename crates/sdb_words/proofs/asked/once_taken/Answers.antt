use Rattle.std.proofs.Common.{rules, ap, map, ◌≡◌, ◌∙◌, true, is_some}
use Rattle.clap.specs.Words.{takes}
use Rattle.sdb_words.proofs.asked.once_taken.Goals as goal

pub unreachable-requires : goal.unreachable-requires
unreachable-requires c =
    let given : is_some c.args.command ≡ true = search rules in
    let taken = ap (λ a. takes a (map (λ word. word.now) c.args.line.now)) c.in_ok-commands.ensures ∙ c.requires given in
    c.in_default-kind.not-OutOfMemory (c.kind.ensures ∙ c.in-Err.ensures.passes taken)
