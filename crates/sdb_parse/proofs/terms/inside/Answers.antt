use Rattle.std.proofs.Common.{◌≡◌, ℕ, false, List, IsUtf8, slice_index_or, sym, ap, subst, ◌∙◌}
use Rattle.std.proofs.lemmas.Bool.{false≢true}
use Rattle.sdb_parse.specs.Terms.{single}
use Rattle.sdb_parse.proofs.TermLemmas.{front_is, inside_is, single_utf8}
use Rattle.sdb_parse.proofs.terms.inside.Goals as goal

pub unreachable-requires : goal.unreachable-requires
unreachable-requires c =
    let front : c.split_at.result.0.now ≡ c.requires.inner = front_is c.args.piece.now c.split_at.result.0.now c.requires.sign c.requires.inner c.requires.is c.split_at.ensures.front in
    let read : c.in_ok-bytes.bytes.items ≡ single c.requires.sign false c.requires.inner =
    c.in_ok-bytes.ensures ∙ (ap (λ (l : List ℕ). single (slice_index_or l 0 0) false c.split_at.result.0.now) c.requires.is ∙ ap (single c.requires.sign false) front) in
    false≢true (c.in-Err.ensures.succeeds (subst IsUtf8 (sym read) (single_utf8 c.requires.sign c.requires.inner c.requires.ascii c.requires.utf8)))

pub returns : goal.returns
returns c =
    let front : c.split_at.result.0.now ≡ c.requires.inner = front_is c.args.piece.now c.split_at.result.0.now c.requires.sign c.requires.inner c.requires.is c.split_at.ensures.front in
    let read : c.in_ok-bytes.bytes.items ≡ single c.requires.sign false c.requires.inner =
    c.in_ok-bytes.ensures ∙ (ap (λ (l : List ℕ). single (slice_index_or l 0 0) false c.split_at.result.0.now) c.requires.is ∙ ap (single c.requires.sign false) front) in
    c.from_string.ensures ∙ (ap (λ v. v.items) c.in-Ok.ensures.ok ∙ (read ∙ sym (inside_is c.args.piece.now c.requires.sign c.requires.inner c.requires.is)))
