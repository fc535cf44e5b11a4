use Rattle.std.proofs.Common.{◌≡◌, ◌∙◌, [], ◌++◌, sym, ap, arith}
use Rattle.std.proofs.lemmas.List.{append-nil}
use Rattle.std.proofs.lemmas.List.Elements.{All-from_get_or}
use Rattle.percent_encoding.specs.Percent.{percent_encode}
use Rattle.percent_encoding.specs.Iter.{encoded_text}
use Rattle.percent_encoding.proofs.PercentLemmas.{IsByte}
use Rattle.sdb_script.specs.declared.request.TheConstants.{RESERVED}
use Rattle.sdb_sign.specs.Canon.{escaped}
use Rattle.sdb_sign.proofs.Escapes.{percent_encode-is}
use Rattle.sdb_script.proofs.request.append_escaped.Goals as goal

pub returns : goal.returns
returns c =
    let plain = c.args.plain.now in
    let small = All-from_get_or IsByte plain 0 (λ i within. omega (arith, c.type_inv.plain i)) in
    let whole : encoded_text c.percent_encode-piece-items.result ≡ escaped plain = c.percent_encode-piece-items.ensures.text ∙ ap (percent_encode RESERVED) c.as_bytes.ensures.value ∙ percent_encode-is plain small in
    let none : encoded_text c.loop-piece.piece-iterator ≡ [] = c.in-None.ensures.steps in
    let ends : c.loop-piece.text.bytes ++ [] ≡ c.args.text.now.bytes ++ encoded_text c.into_iter-piece-iterator.result = rw none at c.loop-piece.invariant in
    sym (append-nil c.loop-piece.text.bytes)
    ∙ ends
    ∙ ap (λ t. c.args.text.now.bytes ++ t) (ap encoded_text c.into_iter-piece-iterator.ensures.into_iter_gives ∙ whole)
