-- One reply stands at the front of bytes, and what follows doesn't change it.
use Rattle.std.proofs.Common.{◌≡◌, ℕ, ◌+◌, ◌<◌, ◌≤◌, ◌⊎◌, Bool, true, false, List, [], ◌∷◌, ◌++◌, ◌-◌, length, take, drop, Ok, Err, refl, sym, ap, ◌∙◌, subst, inl, inr, arith, append_assoc, length-append}
use Rattle.std.proofs.Math.ListN.{get_or-append}
use Rattle.std.proofs.lemmas.List.{take-append-le, drop-append-le}
use Rattle.std.proofs.lemmas.Bool.{cases_lt}
use Rattle.httparse.proofs.GrammarLemmas.{request_unique}
use Rattle.httparse.specs.Grammar.{RequestHead}
use Rattle.sdb_http.specs.declared.fault.HttpFault.TheVariants.{HeadTooLong}
use Rattle.sdb_http.specs.Heads.{Judged, Shape, Verdict, parts_of, verdict}
use Rattle.sdb_http.specs.Messages.{EndsAt, HasBody, HasHead, IsFront, IsTooLong, Reply, Seen, closes_head, head_limit, is_last, message_of, trim}
use Rattle.sdb_http.proofs.TrimLemmas.{trim-append_front, trim-trim}

-- ---- what follows

pub closes_head-append : (bytes more : List ℕ) (k : ℕ) → k < length bytes → closes_head (bytes ++ more) k ≡ closes_head bytes k
closes_head-append bytes more k h =
    let before : k - 1 < length bytes = omega arith in
    let two : k - 2 < length bytes = omega arith in
    rw (get_or-append bytes more 0 k h, get_or-append bytes more 0 (k - 1) before, get_or-append bytes more 0 (k - 2) two) refl

pub EndsAt-append : (bytes more : List ℕ) (last : ℕ) → EndsAt bytes last → EndsAt (bytes ++ more) last
EndsAt-append bytes more last e = record {
  within = let w : last < length bytes = e.within in omega (arith, length-append bytes more);
  closes = closes_head-append bytes more last e.within ∙ e.closes;
  first = λ k h. let w : k < length bytes = omega (arith, e.within) in closes_head-append bytes more k w ∙ e.first k h;
}

IsTooLong-append : (bytes more : List ℕ) → IsTooLong bytes → IsTooLong (bytes ++ more)
IsTooLong-append bytes more t = record {
  reached = let w : head_limit ≤ length bytes = t.reached in omega (arith, length-append bytes more);
  none = λ k h. let w : k < length bytes = omega (arith, t.reached) in closes_head-append bytes more k w ∙ t.none k h;
}

pub HasHead-append : (bytes more : List ℕ) (last : ℕ) (v : Verdict) → HasHead bytes last v → HasHead (bytes ++ more) last v
HasHead-append bytes more last v h =
    let whole : last + 1 ≤ length bytes = omega (arith, h.ends_at.within) in
    record {
      ends_at = EndsAt-append bytes more last h.ends_at;
      short = h.short;
      judged = subst (λ (head : List ℕ). Judged head v) (sym (take-append-le (last + 1) bytes more whole)) h.judged;
    }

HasBody-append : (bytes more : List ℕ) (shape : Shape) (m : Seen) (rest : List ℕ) → HasBody bytes shape m rest → HasBody (bytes ++ more) shape m (rest ++ more)
HasBody-append bytes more shape m rest b = record {
  body = b.body;
  cut = ap (λ (all : List ℕ). all ++ more) b.cut ∙ append_assoc b.body rest more;
  size = b.size;
  message = b.message;
}

some_by_head : (bytes : List ℕ) (last : ℕ) (v : Verdict) → HasHead bytes last v → 0 < length bytes
some_by_head bytes last v h = let w : last < length bytes = h.ends_at.within in omega arith

-- a reply stands, whatever follows
pub IsFront-append : (bytes more : List ℕ) (reply : Reply) (rest : List ℕ) → IsFront bytes reply rest → IsFront (bytes ++ more) reply (rest ++ more)
unfolding IsFront
IsFront-append bytes more (Ok m) rest (last, shape, head, body) =
    let same = trim-append_front bytes more (some_by_head _ _ _ head) in
    let whole : last + 1 ≤ length (trim bytes) = omega (arith, head.ends_at.within) in
    (last, shape, subst (λ (all : List ℕ). HasHead all last (Ok shape)) (sym same) (HasHead-append (trim bytes) more last (Ok shape) head), subst (λ (after : List ℕ). HasBody after shape m (rest ++ more)) (sym (ap (drop (last + 1)) same ∙ drop-append-le (last + 1) (trim bytes) more whole)) (HasBody-append (drop (last + 1) (trim bytes)) more shape m rest body))
IsFront-append bytes more (Err fault) rest (inl (long, is)) =
    let some : 0 < length (trim bytes) = omega (arith, long.reached) in
    inl (subst IsTooLong (sym (trim-append_front bytes more some)) (IsTooLong-append (trim bytes) more long), is)
IsFront-append bytes more (Err fault) rest (inr (last, head)) =
    let same = trim-append_front bytes more (some_by_head _ _ _ head) in
    inr (last, subst (λ (all : List ℕ). HasHead all last (Err fault)) (sym same) (HasHead-append (trim bytes) more last (Err fault) head))

-- ---- skipped bytes don't matter

pub IsFront-trim : (bytes : List ℕ) (reply : Reply) (rest : List ℕ) → IsFront bytes reply rest → IsFront (trim bytes) reply rest
unfolding IsFront
IsFront-trim bytes (Ok m) rest h = subst (λ (all : List ℕ). (last : ℕ) × (shape : Shape) × HasHead all last (Ok shape) × HasBody (drop (last + 1) all) shape m rest) (sym (trim-trim bytes)) h
IsFront-trim bytes (Err fault) rest h = subst (λ (all : List ℕ). (IsTooLong all × (fault ≡ HeadTooLong)) ⊎ ((last : ℕ) × HasHead all last (Err fault))) (sym (trim-trim bytes)) h

pub IsFront-from_trim : (bytes : List ℕ) (reply : Reply) (rest : List ℕ) → IsFront (trim bytes) reply rest → IsFront bytes reply rest
unfolding IsFront
IsFront-from_trim bytes (Ok m) rest h = subst (λ (all : List ℕ). (last : ℕ) × (shape : Shape) × HasHead all last (Ok shape) × HasBody (drop (last + 1) all) shape m rest) (trim-trim bytes) h
IsFront-from_trim bytes (Err fault) rest h = subst (λ (all : List ℕ). (IsTooLong all × (fault ≡ HeadTooLong)) ⊎ ((last : ℕ) × HasHead all last (Err fault))) (trim-trim bytes) h

-- ---- one reply

pub not_both : {b : Bool} → b ≡ true → b ≡ false → ⊥
not_both is isnt = cc

EndsAt-unique : (bytes : List ℕ) (m n : ℕ) → EndsAt bytes m → EndsAt bytes n → m ≡ n
EndsAt-unique bytes m n x y =
    elim (cases_lt m n) [
      | inl less ↦ absurd (not_both x.closes (y.first m less))
      | inr least ↦ elim (cases_lt n m) [
        | inl less ↦ absurd (not_both y.closes (x.first n less))
        | inr most ↦ omega arith
      ]
    ]

Judged-unique : (bytes : List ℕ) (v w : Verdict) → Judged bytes v → Judged bytes w → v ≡ w
Judged-unique bytes v w (inl (h, x, e)) (inl (k, y, f)) =
    e ∙ (ap (λ (head : RequestHead). verdict (parts_of head)) (request_unique bytes h k [] [] x.reads y.reads).0 ∙ sym f)
Judged-unique bytes v w (inl (h, x, e)) (inr (none, f)) = absurd (none h x)
Judged-unique bytes v w (inr (none, f)) (inl (h, x, e)) = absurd (none h x)
Judged-unique bytes v w (inr (none, e)) (inr (none', f)) = e ∙ sym f

pub HasHead-unique : (bytes : List ℕ) (m n : ℕ) (v w : Verdict) → HasHead bytes m v → HasHead bytes n w → (m ≡ n) × (v ≡ w)
HasHead-unique bytes m n v w x y =
    let same = EndsAt-unique bytes m n x.ends_at y.ends_at in
    (same, Judged-unique (take (n + 1) bytes) v w (subst (λ (last : ℕ). Judged (take (last + 1) bytes) v) same x.judged) y.judged)

-- what ends in time isn't too long
pub not_long : (bytes : List ℕ) (last : ℕ) (v : Verdict) → IsTooLong bytes → HasHead bytes last v → ⊥
not_long bytes last v long head = not_both head.ends_at.closes (long.none last head.short)

cut_unique : (a b x y : List ℕ) → length a ≡ length b → a ++ x ≡ b ++ y → (a ≡ b) × (x ≡ y)
cut_unique [] [] x y same e = (refl, e)
cut_unique [] (c ∷ b) x y same e = absurd (omega arith)
cut_unique (c ∷ a) [] x y same e = absurd (omega arith)
cut_unique (c ∷ a) (d ∷ b) x y same e =
    let first : c ≡ d = cc in
    let others : a ++ x ≡ b ++ y = cc in
    let sizes : length a ≡ length b = omega arith in
    let rests = cut_unique a b x y sizes others in
    let fronts : a ≡ b = rests.0 in
    (cc, rests.1)

HasBody-unique : (bytes : List ℕ) (shape : Shape) (m n : Seen) (r q : List ℕ) → HasBody bytes shape m r → HasBody bytes shape n q → (m ≡ n) × (r ≡ q)
HasBody-unique bytes shape m n r q x y =
    let cuts = cut_unique x.body y.body r q (x.size ∙ sym y.size) (sym x.cut ∙ y.cut) in
    (x.message ∙ (ap (message_of shape) cuts.0 ∙ sym y.message), cuts.1)

-- a message at the front of bytes, and what follows it, are one
pub messages_agree : (bytes : List ℕ) (m n : Seen) (r q : List ℕ) → IsFront bytes (Ok m) r → IsFront bytes (Ok n) q → (m ≡ n) × (r ≡ q)
unfolding IsFront
messages_agree bytes m n r q (last, shape, head, body) (last', shape', head', body') =
    let heads = HasHead-unique (trim bytes) last last' (Ok shape) (Ok shape') head head' in
    let shapes : shape ≡ shape' = cc heads.1 in
    let lasts : last ≡ last' = heads.0 in
    let moved : HasBody (drop (last' + 1) (trim bytes)) shape' m r =
    subst (λ (s : Shape). HasBody (drop (last' + 1) (trim bytes)) s m r) shapes (subst (λ (l : ℕ). HasBody (drop (l + 1) (trim bytes)) shape m r) lasts body) in
    HasBody-unique (drop (last' + 1) (trim bytes)) shape' m n r q moved body'

-- no message's bytes are a proper prefix of another's
pub prefix_free : (bytes more : List ℕ) (m k : Seen) → IsFront bytes (Ok m) [] → IsFront (bytes ++ more) (Ok k) [] → more ≡ []
prefix_free bytes more m k front whole = (messages_agree (bytes ++ more) m k more [] (IsFront-append bytes more (Ok m) [] front) whole).1

-- bytes have one reply at their front
pub IsFront-unique : (bytes : List ℕ) (x y : Reply) (r q : List ℕ) → IsFront bytes x r → IsFront bytes y q → (x ≡ y) × (is_last x ≡ false → r ≡ q)
unfolding IsFront
IsFront-unique bytes (Ok m) (Ok n) r q front front' =
    let same = messages_agree bytes m n r q front front' in (ap Ok same.0, λ _. same.1)
IsFront-unique bytes (Ok m) (Err fault) r q (last, shape, head, body) (inl (long, is)) = absurd (not_long (trim bytes) last (Ok shape) long head)
IsFront-unique bytes (Ok m) (Err fault) r q (last, shape, head, body) (inr (last', head')) =
    let heads = HasHead-unique (trim bytes) last last' (Ok shape) (Err fault) head head' in
    absurd (cc heads.1)
IsFront-unique bytes (Err fault) (Ok m) r q (inl (long, is)) (last, shape, head, body) = absurd (not_long (trim bytes) last (Ok shape) long head)
IsFront-unique bytes (Err fault) (Ok m) r q (inr (last', head')) (last, shape, head, body) =
    let heads = HasHead-unique (trim bytes) last last' (Ok shape) (Err fault) head head' in
    absurd (cc heads.1)
IsFront-unique bytes (Err e) (Err f) r q (inl (long, is)) (inl (long', is')) = (ap Err (is ∙ sym is'), λ (live : true ≡ false). absurd cc)
IsFront-unique bytes (Err e) (Err f) r q (inl (long, is)) (inr (last, head)) = absurd (not_long (trim bytes) last (Err f) long head)
IsFront-unique bytes (Err e) (Err f) r q (inr (last, head)) (inl (long, is)) = absurd (not_long (trim bytes) last (Err e) long head)
IsFront-unique bytes (Err e) (Err f) r q (inr (last, head)) (inr (last', head')) =
    let faults : e ≡ f = cc (HasHead-unique (trim bytes) last last' (Err e) (Err f) head head').1 in
    (ap Err faults, λ (live : true ≡ false). absurd cc)
