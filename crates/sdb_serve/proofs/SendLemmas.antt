-- How answers that are sent one after the other add up.
use Rattle.std.proofs.Common.{◌≡◌, ◌≢◌, ◌≤◌, ◌+◌, ◌-◌, ◌^◌, min, ℕ, Bool, true, false, ◌||◌, ◌&&◌, ◌==◌, eqb, if◌then◌else◌, List, [], ◌∷◌, ◌++◌, length, take, Option, Some, None, IsTrue, refl, sym, ◌∙◌, ap, subst, arith, append_assoc, append-nil, length-append, eq-eqb}
use Rattle.std.proofs.lemmas.Bool.{false≢true, true≢false}
use Rattle.std.proofs.Math.Seq.{take-append-add}
use Rattle.std.specs.Option.{option_eq}
use Rattle.sdb_base.specs.Causes.{Rose}
use Rattle.sdb_arrivals.specs.Queues.{Sent, with_out}
use Rattle.sdb_core.specs.Kept.{View}
use Rattle.sdb_core.specs.Told.{RoseBy}
use Rattle.sdb_io.specs.Links as links
use Rattle.sdb_io.specs.Links.{Stage, opened, closed, closed_after}
use Rattle.sdb_serve.specs.Stepping.{emptied}
use Rattle.sdb_serve.specs.Sending.{AllTo, IsSent, OnConn, Others, SendsAll, SendsOne, bytes_to, in_stage, is_closing, lost_on, newly}

if_self : {A : Type 0} (k : ℕ) (x y : A) → (if k == k then x else y) ≡ x
if_self {A = A} k x y = rw (eq-eqb k k refl)

bytes_one : (x : Sent) → bytes_to x.conn (x ∷ []) ≡ x.bytes
bytes_one x = if_self x.conn (x.bytes ++ []) [] ∙ append-nil x.bytes

pub bytes_to-append : (k : ℕ) (xs ys : List Sent) → bytes_to k (xs ++ ys) ≡ bytes_to k xs ++ bytes_to k ys
bytes_to-append k [] ys = refl
bytes_to-append k (x ∷ xs) ys = by (k == x.conn) (bytes_to-append k xs ys)
  where
    by : (b : Bool) → bytes_to k (xs ++ ys) ≡ bytes_to k xs ++ bytes_to k ys
        → (if b then x.bytes ++ bytes_to k (xs ++ ys) else bytes_to k (xs ++ ys)) ≡ (if b then x.bytes ++ bytes_to k xs else bytes_to k xs) ++ bytes_to k ys
    by true rest = ap (λ l. x.bytes ++ l) rest ∙ sym (append_assoc x.bytes (bytes_to k xs) (bytes_to k ys))
    by false rest = rest

or_assoc : (a b c : Bool) → (a || (b || c)) ≡ ((a || b) || c)
or_assoc true b c = refl
or_assoc false b c = refl

pub is_closing-append : (k : ℕ) (xs ys : List Sent) → is_closing k (xs ++ ys) ≡ (is_closing k xs || is_closing k ys)
is_closing-append k [] ys = refl
is_closing-append k (x ∷ xs) ys = ap (λ b. ((k == x.conn) && x.close) || b) (is_closing-append k xs ys) ∙ or_assoc ((k == x.conn) && x.close) (is_closing k xs) (is_closing k ys)

pub AllTo-front : (k : ℕ) (xs ys : List Sent) → AllTo k (xs ++ ys) → AllTo k xs
AllTo-front k [] ys all = tt
AllTo-front k (x ∷ xs) ys all = (all.0, AllTo-front k xs ys all.1)

pub AllTo-back : (k : ℕ) (xs ys : List Sent) → AllTo k (xs ++ ys) → AllTo k ys
AllTo-back k [] ys all = all
AllTo-back k (x ∷ xs) ys all = AllTo-back k xs ys all.1

pub RoseBy-add : (m n before mid now : ℕ) → RoseBy m before mid → RoseBy n mid now → RoseBy (m + n) before now
RoseBy-add m n before mid now first next = grind (arith)

-- a stage of one that opened
shut_after : (shut more : Bool) → (if more then closed_after (in_stage true shut opened) else in_stage true shut opened) ≡ in_stage true (shut || more) opened
shut_after true true = refl
shut_after true false = refl
shut_after false true = refl
shut_after false false = refl

pub OnConn-failed : (x : Sent) (before whole : List ℕ) (shut : Bool) (old new : links.State) → OnConn x.conn before whole false shut old → SendsOne x true old new
    → OnConn x.conn before (whole ++ bytes_to x.conn (x ∷ [])) true (shut || true || is_closing x.conn (x ∷ [])) new
OnConn-failed x before whole shut old new on one =
    let shuts : (shut || true || is_closing x.conn (x ∷ [])) ≡ true = all_true shut (is_closing x.conn (x ∷ [])) in
    record {
      sent = (
        length whole + one.sent.0,
        omega (arith, one.sent.1, length-append whole (bytes_to x.conn (x ∷ [])), ap length (bytes_one x)),
        one.sent.2 ∙ ap (λ l. l ++ take one.sent.0 x.bytes) on.sent ∙ append_assoc before whole (take one.sent.0 x.bytes)
            ∙ ap (λ l. before ++ l) (sym (take-append-add whole x.bytes one.sent.0) ∙ ap (λ b. take (length whole + one.sent.0) (whole ++ b)) (sym (bytes_one x))),
      );
      stage = one.stage ∙ closes_any x.close ∙ ap closed_after on.stage ∙ closed_now shut ∙ ap (λ b. in_stage true b opened) (sym shuts);
      gone_shut = λ e. shuts;
    }
  where
    all_true : (a b : Bool) → (a || true || b) ≡ true
    all_true true b = refl
    all_true false b = refl

    closes_any : (b : Bool) → (if b || true then closed_after (old.stage x.conn) else old.stage x.conn) ≡ closed_after (old.stage x.conn)
    closes_any true = refl
    closes_any false = refl

    closed_now : (b : Bool) → closed_after (in_stage true b opened) ≡ closed
    closed_now true = refl
    closed_now false = refl

pub Sends-failed : (x : Sent) (old new : links.State) (known : Option ℕ) (gone : Bool) → false ≡ option_eq eqb known (Some x.conn) → known ≡ lost_on x.conn gone
    → Rose old.faults new.faults → (IsTrue old.told → SendsOne x true old new) → SendsAll x.conn (x ∷ []) gone (Some x.conn) old new
Sends-failed x old new known true differs is rose one =
    absurd (false≢true (differs ∙ ap (λ v. option_eq eqb v (Some x.conn)) is ∙ eq-eqb x.conn x.conn refl))
Sends-failed x old new known false differs is rose one = record {
  now_gone = true;
  is = refl;
  kept = λ e. refl;
  counted = rose;
  on = λ told before whole shut on. OnConn-failed x before whole shut old new on (one told);
  others = λ told. (one told).others;
}

pub Sends-none : (k : ℕ) (gone : Bool) (known : Option ℕ) (now : links.State) → known ≡ lost_on k gone → SendsAll k [] gone known now now
Sends-none k gone known now is = record {
  now_gone = gone;
  is = is;
  kept = λ e. e;
  counted = none gone;
  on = λ told before whole shut on. record {
    sent = let S : List ℕ → Type 0 = IsSent gone before (now.sent k) in subst S (sym (append-nil whole)) on.sent;
    stage = on.stage ∙ ap (λ b. in_stage true b opened) (same shut gone on.gone_shut);
    gone_shut = λ e. sym (same shut gone on.gone_shut) ∙ on.gone_shut e;
  };
  others = λ told. record { port = refl; to_come = refl; sent = λ c other. refl; stage = λ c other. refl };
}
  where
    none : (b : Bool) → RoseBy (newly b b) now.faults now.faults
    none true = omega arith
    none false = omega arith

    same : (a b : Bool) → (b ≡ true → a ≡ true) → a ≡ (a || b || false)
    same true b h = refl
    same false false h = refl
    same false true h = h refl

pub Others-trans : (k : ℕ) (old mid new : links.State) → Others k old mid → Others k mid new → Others k old new
Others-trans k old mid new first next = record {
  port = next.port ∙ first.port;
  to_come = next.to_come ∙ first.to_come;
  sent = λ c other. next.sent c other ∙ first.sent c other;
  stage = λ c other. next.stage c other ∙ first.stage c other;
}

pub Sends-more : (k : ℕ) (outs : List Sent) (x : Sent) (gone : Bool) (known later : Option ℕ) (old mid new : links.State) → mid.told ≡ old.told
    → (first : SendsAll k outs gone known old mid) → SendsAll k (x ∷ []) first.now_gone later mid new → SendsAll k (outs ++ x ∷ []) gone later old new
Sends-more k outs x gone known later old mid new told first next = record {
  now_gone = next.now_gone;
  is = next.is;
  kept = λ e. next.kept (first.kept e);
  counted = let C : ℕ → Type 0 = λ n. RoseBy n old.faults new.faults in
      subst C (adds gone first.now_gone next.now_gone first.kept next.kept) (RoseBy-add (newly gone first.now_gone) (newly first.now_gone next.now_gone) old.faults mid.faults new.faults first.counted next.counted);
  on = λ known before whole shut on.
      let after = next.on (along known) before (whole ++ bytes_to k outs) (shut || first.now_gone || is_closing k outs) (first.on known before whole shut on) in
      let W : List ℕ → Type 0 = λ w. OnConn k before w next.now_gone (shut || next.now_gone || is_closing k (outs ++ x ∷ [])) new in
      let B : Bool → Type 0 = λ b. OnConn k before ((whole ++ bytes_to k outs) ++ bytes_to k (x ∷ [])) next.now_gone b new in
      subst W (append_assoc whole (bytes_to k outs) (bytes_to k (x ∷ [])) ∙ ap (λ l. whole ++ l) (sym (bytes_to-append k outs (x ∷ []))))
      (subst B (shuts shut first.now_gone next.now_gone (is_closing k outs) (is_closing k (x ∷ [])) next.kept ∙ ap (λ b. shut || next.now_gone || b) (sym (is_closing-append k outs (x ∷ [])))) after);
  others = λ known. Others-trans k old mid new (first.others known) (next.others (along known));
}
  where
    along : IsTrue old.told → IsTrue mid.told
    along h = let T : Bool → Type 0 = λ b. IsTrue b in subst T (sym told) h

    adds : (a b c : Bool) → (a ≡ true → b ≡ true) → (b ≡ true → c ≡ true) → newly a b + newly b c ≡ newly a c
    adds true true c h i = refl
    adds true false c h i = absurd (false≢true (h refl))
    adds false true true h i = refl
    adds false true false h i = absurd (false≢true (i refl))
    adds false false true h i = refl
    adds false false false h i = refl

    shuts : (a b c d e : Bool) → (b ≡ true → c ≡ true) → ((a || b || d) || c || e) ≡ (a || c || (d || e))
    shuts true b c d e h = refl
    shuts false true true d e h = refl
    shuts false true false d e h = absurd (false≢true (h refl))
    shuts false false true true e h = refl
    shuts false false true false e h = refl
    shuts false false false true e h = refl
    shuts false false false false e h = refl

-- the answers sent so far, and those that are left
pub record SentSoFar (start now : View) (known later : Option ℕ) (old new : links.State) : Type 0 where
  pub outs : List Sent
  pub split : start.line.out ≡ outs ++ now.line.out
  pub core : emptied now ≡ emptied start
  pub told : new.told ≡ old.told
  pub last : new.last ≡ old.last
  pub later_faults : old.faults ≤ new.faults
  pub sends : (k : ℕ) (gone : Bool) → AllTo k outs → known ≡ lost_on k gone → SendsAll k outs gone later old new
  pub none : outs ≡ [] → (later ≡ known) × (new ≡ old)

pub SentSoFar-none : (core : View) (known : Option ℕ) (now : links.State) → SentSoFar core core known known now now
SentSoFar-none core known now = record {
  outs = [];
  split = refl;
  core = refl;
  told = refl;
  last = refl;
  later_faults = omega arith;
  sends = λ k gone all is. Sends-none k gone known now is;
  none = λ e. (refl, refl);
}

pub SentSoFar-more : (start mid now : View) (known so_far later : Option ℕ) (old between new : links.State) (x : Sent) → SentSoFar start mid known so_far old between
    → mid ≡ record now { line = with_out x now.line } → new.told ≡ between.told → new.last ≡ between.last → between.faults ≤ new.faults
    → ((gone : Bool) → so_far ≡ lost_on x.conn gone → SendsAll x.conn (x ∷ []) gone later between new) → SentSoFar start now known later old new
SentSoFar-more start mid now known so_far later old between new x first took told last faults one = record {
  outs = first.outs ++ x ∷ [];
  split = first.split ∙ ap (λ (v : View). first.outs ++ v.line.out) took ∙ sym (append_assoc first.outs (x ∷ []) now.line.out);
  core = sym (ap emptied took) ∙ first.core;
  told = told ∙ first.told;
  last = last ∙ first.last;
  later_faults = omega (arith, first.later_faults, faults);
  sends = λ k gone all is.
      let earlier = first.sends k gone (AllTo-front k first.outs (x ∷ []) all) is in
      let here : x.conn ≡ k = (AllTo-back k first.outs (x ∷ []) all).0 in
      let P : ℕ → Type 0 = λ c. SendsAll c (x ∷ []) earlier.now_gone later between new in
      Sends-more k first.outs x gone so_far later old between new first.told earlier
      (subst P here (one earlier.now_gone (earlier.is ∙ ap (λ c. lost_on c earlier.now_gone) (sym here))));
  none = λ e. absurd (not_none first.outs e);
}
  where
    not_none : (outs : List Sent) → outs ++ x ∷ [] ≡ [] → ⊥
    not_none [] e = cc
    not_none (y ∷ outs) e = cc

pub SentSoFar-all : (start now : View) (known later : Option ℕ) (old new : links.State) → (so_far : SentSoFar start now known later old new) → now.line.out ≡ []
    → ((k : ℕ) (gone : Bool) → AllTo k start.line.out → known ≡ lost_on k gone → SendsAll k start.line.out gone later old new)
SentSoFar-all start now known later old new so_far none =
    let whole : start.line.out ≡ so_far.outs = so_far.split ∙ ap (λ l. so_far.outs ++ l) none ∙ append-nil so_far.outs in
    λ k gone. let P : List Sent → Type 0 = λ outs. AllTo k outs → known ≡ lost_on k gone → SendsAll k outs gone later old new in
    subst P (sym whole) (so_far.sends k gone)

pub SentSoFar-whole : (start now : View) (known later : Option ℕ) (old new : links.State) → (so_far : SentSoFar start now known later old new) → now.line.out ≡ []
    → start.line.out ≡ [] → (later ≡ known) × (new ≡ old)
SentSoFar-whole start now known later old new so_far none nothing =
    so_far.none (sym (so_far.split ∙ ap (λ l. so_far.outs ++ l) none ∙ append-nil so_far.outs) ∙ nothing)
