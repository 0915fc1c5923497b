-- What is in the grammar is read again, for each way in which the grammar joins its rules.
use Rattle.std.proofs.Common.{◌≡◌, ℕ, zero, suc, ◌+◌, ◌-◌, ◌≤◌, ◌<◌, Bool, true, false, cond, nat_le, List, [], ◌∷◌, ◌++◌, length, Option, Some, None, refl, ap, sym as flip, ◌∙◌, subst, arith, append_assoc, append-nil, length-append, inl, inr}
use Rattle.std.specs.Prelude.{◌⊎◌}
use Rattle.std.proofs.lemmas.Bool.Decides.{leb_tells}
use denote.Enum.Bare.{true_same}
use Rattle.lexer.specs.contracts.words.Word.{the_type as word_type}
use Rattle.lexer.specs.declared.kinds.Kind.{Kind}
use Rattle.lexer.specs.declared.kinds.Kind.TheVariants as kind
use Rattle.lexer.specs.declared.kinds.Symbol.{Symbol}
use Rattle.lexer.specs.declared.kinds.Symbol.TheVariants as s
use Rattle.lexer.specs.declared.words.Word.{Word}
use Rattle.ast.specs.Notation.{Tokens, Rule, ◌⨾◌, ◌⊳◌, ◌⊲◌, Parenthesized, Maybe, Written, Many, Listed, MaybeListed}
use Rattle.ast.specs.Words.{COMMA}
use Rattle.ast.specs.Expressions.{Within, Chain}
use Rattle.parse_terminals.specs.Readers.{Reader, Outcome, ◌>>=◌, if_next, if_full, is_full, next_is, is_word, is_symbol, word, symbol, eat_word, both, after, before, parenthesized, made, optional, maybe, maybe_listed, written, many_from, many, listed}
use Rattle.parser.specs.Shallow.{is_shallow}
use Rattle.parser.proofs.Steps.{word_again, symbol_again, no_word, no_symbol}
use Rattle.parser.proofs.Passes.{Passes, here, past, around, onward, one, same, no_longer, shallow_after, shallow_inside}

-- The next token does not go on with what came before.
abbrev pub Stops : (Kind → Bool) → Tokens → Type 0
Stops goes_on rest = next_is goes_on rest ≡ false

-- no token goes on with it
abbrev pub never : Kind → Bool
never _ = false

pub nothing_stops : (ts : Tokens) → Stops never ts
nothing_stops [] = refl
nothing_stops (t ∷ ts) = refl

-- What is in R passes matched parentheses, and r reads it where the next token does not go on with
-- it.
pub record Again (A : Type 0) (d : ℕ) (goes_on : Kind → Bool) (r : Reader A) (R : Rule A) : Type 0 where
  pub passes : (ts : Tokens) (x : A) (rest : Tokens) → R ts x rest → Passes ts rest
  pub at : (ts : Tokens) (x : A) (rest : Tokens) → R ts x rest → is_shallow ts d ≡ true → Stops goes_on rest → r ts ≡ Some (x, rest)

-- where more tokens go on with it
pub widen : {A : Type 0} {d : ℕ} {p : Kind → Bool} {r : Reader A} {R : Rule A} (q : Kind → Bool) → ((rest : Tokens) → Stops q rest → Stops p rest) → Again A d p r R → Again A d q r R
widen q f l = record { passes = l.passes; at = λ ts x rest h shallow stops. l.at ts x rest h shallow (f rest stops) }

-- A ⨾ B
pub both_again : {A B : Type 0} {d : ℕ} {p q : Kind → Bool} {r : Reader A} {R : Rule A} {r' : Reader B} {R' : Rule B} → Again A d p r R → Again B d q r' R'
    → ((ts : Tokens) (x : B) (rest : Tokens) → R' ts x rest → Stops q rest → Stops p ts) → Again (A × B) d q (both r r') (R ⨾ R')
both_again l m starts = record {
  passes = λ ts x rest h. onward (l.passes ts x.0 h.0 h.1) (m.passes h.0 x.1 rest h.2);
  at = λ ts x rest h shallow stops.
      let a = l.at ts x.0 h.0 h.1 shallow (starts h.0 x.1 rest h.2 stops) in
      let b = m.at h.0 x.1 rest h.2 (shallow_after (l.passes ts x.0 h.0 h.1) _ shallow) stops in
      rw (a, b) refl;
}

-- t ⊳ A
pub after_word_again : {A : Type 0} {d : ℕ} {p : Kind → Bool} {r : Reader A} {R : Rule A} (w : Word) → Again A d p r R → Again A d p (after (word w) r) (kind.Word w ⊳ R)
after_word_again w l = record {
  passes = λ ts x rest h. onward (one refl refl h.1) (l.passes h.0 x rest h.2);
  at = λ ts x rest h shallow stops.
      let b = l.at h.0 x rest h.2 (shallow_after (one refl refl h.1) _ shallow) stops in
      rw (h.1, word_again w h.0) b;
}

pub after_symbol_again : {A : Type 0} {d : ℕ} {p : Kind → Bool} {r : Reader A} {R : Rule A} (w : Symbol)
    → is_symbol s.LeftParenthesis (kind.Symbol w) ≡ false → is_symbol s.RightParenthesis (kind.Symbol w) ≡ false → Again A d p r R → Again A d p (after (symbol w) r) (kind.Symbol w ⊳ R)
after_symbol_again w o c l = record {
  passes = λ ts x rest h. onward (one o c h.1) (l.passes h.0 x rest h.2);
  at = λ ts x rest h shallow stops.
      let b = l.at h.0 x rest h.2 (shallow_after (one o c h.1) _ shallow) stops in
      rw (h.1, symbol_again w h.0) b;
}

-- A ⊲ t
pub before_word_again : {A : Type 0} {d : ℕ} {p : Kind → Bool} {r : Reader A} {R : Rule A} (w : Word) (q : Kind → Bool) → p (kind.Word w) ≡ false → Again A d p r R
    → Again A d q (before r (word w)) (R ⊲ kind.Word w)
before_word_again w q stop l = record {
  passes = λ ts x rest h. onward (l.passes ts x (kind.Word w ∷ rest) h) (past refl refl here);
  at = λ ts x rest h shallow stops.
      let a = l.at ts x (kind.Word w ∷ rest) h shallow stop in
      rw (a, word_again w rest) refl;
}

-- What stands between parentheses, where one level of d is spent on them.
pub record Inside (A : Type 0) (d : ℕ) (r : Reader A) (R : Rule A) : Type 0 where
  pub passes : (ts : Tokens) (x : A) (rest : Tokens) → R ts x rest → Passes ts rest
  pub at : (a : Tokens) (x : A) (rest : Tokens) → R a x (kind.Symbol s.RightParenthesis ∷ rest) → is_shallow (kind.Symbol s.LeftParenthesis ∷ a) d ≡ true
      → r a ≡ Some (x, kind.Symbol s.RightParenthesis ∷ rest)

pub inside : {A : Type 0} {d : ℕ} {p : Kind → Bool} {r : Reader A} {R : Rule A} → p (kind.Symbol s.RightParenthesis) ≡ false → Again A d p r R → Inside A d r R
inside stop l = record { passes = l.passes; at = λ a x rest h shallow. l.at a x _ h (shallow_inside a _ shallow) stop }

-- ( A )
pub parenthesized_again : {A : Type 0} {d : ℕ} {r : Reader A} {R : Rule A} (p : Kind → Bool) → Inside A d r R → Again A d p (parenthesized r) (Parenthesized R)
parenthesized_again p l = record {
  passes = λ ts x rest h. subst (λ ts. Passes ts rest) (flip h.1) (around (l.passes h.0 x _ h.2) here);
  at = λ ts x rest h shallow stops.
      let a = l.at h.0 x rest h.2 (rw h.1 at shallow) in
      rw (h.1, symbol_again s.LeftParenthesis h.0, a, symbol_again s.RightParenthesis rest) refl;
}

-- with another tree
pub made_again : {A B : Type 0} {d : ℕ} {p : Kind → Bool} {r : Reader A} {R : Rule A} {R' : Rule B} (f : A → B) (g : B → A) → Again A d p r R
    → ((ts : Tokens) (y : B) (rest : Tokens) → R' ts y rest → R ts (g y) rest) → ((y : B) → f (g y) ≡ y) → Again B d p (made f r) R'
made_again f g l from back = record {
  passes = λ ts y rest h. l.passes ts (g y) rest (from ts y rest h);
  at = λ ts y rest h shallow stops. rw (l.at ts (g y) rest (from ts y rest h) shallow stops) (ap (λ z. Some (z, rest)) (back y));
}

-- ---- what may be left out

pub written_again : (w : Word) (ts : Tokens) (b : Bool) (rest : Tokens) → Written (kind.Word w) ts b rest → Stops (is_word w) rest → eat_word w ts ≡ (b, rest)
unfolding eat_word
written_again w ts true rest h stops = rw (h, true_same word_type w w refl) refl
written_again w ts false rest h stops = rw (h, stops) refl

pub written_passes : (w : Word) (ts : Tokens) (b : Bool) (rest : Tokens) → Written (kind.Word w) ts b rest → Passes ts rest
written_passes w ts true rest h = one refl refl h
written_passes w ts false rest h = same h

-- [t]
pub may_be_again : {d : ℕ} (w : Word) → Again Bool d (is_word w) (written w) (Written (kind.Word w))
may_be_again w = record { passes = written_passes w; at = λ ts b rest h shallow stops. ap (λ p. Some p) (written_again w ts b rest h stops) }

pub maybe_passes : {A : Type 0} (R : Rule A) → ((ts : Tokens) (x : A) (rest : Tokens) → R ts x rest → Passes ts rest) → (ts : Tokens) (x : Option A) (rest : Tokens) → Maybe R ts x rest → Passes ts rest
maybe_passes R p ts None rest h = same h
maybe_passes R p ts (Some x) rest h = p ts x rest h

-- [A], where A reads nothing unless it is there
pub optional_again : {A : Type 0} {d : ℕ} {p : Kind → Bool} {r : Reader A} {R : Rule A} (q : Kind → Bool) → Again A d p r R → ((rest : Tokens) → Stops q rest → r rest ≡ None)
    → ((rest : Tokens) → Stops q rest → Stops p rest) → Again (Option A) d q (optional r) (Maybe R)
optional_again {A} {d} {r} {R} q l absent weaker = record { passes = maybe_passes R l.passes; at = at }
  where
    at : (ts : Tokens) (x : Option A) (rest : Tokens) → Maybe R ts x rest → is_shallow ts d ≡ true → Stops q rest → optional r ts ≡ Some (x, rest)
    at ts None rest h shallow stops = rw (h, absent rest stops) refl
    at ts (Some y) rest h shallow stops = rw (l.at ts y rest h shallow (weaker rest stops)) refl

-- What begins an item, and the item after it. The next token after an item does not pass p; after
-- the last it does not pass q.
pub record Opened (O A : Type 0) (d : ℕ) (p q : Kind → Bool) (begin : Reader O) (item : O → Reader A) (R : Rule A) : Type 0 where
  pub passes : (ts : Tokens) (x : A) (rest : Tokens) → R ts x rest → Passes ts rest
  pub at : (ts : Tokens) (x : A) (rest : Tokens) → R ts x rest → is_shallow ts d ≡ true → Stops p rest → (o : O × Tokens) × (begin ts ≡ Some o) × (item o.0 o.1 ≡ Some (x, rest))
  pub begins : (ts : Tokens) (x : A) (rest : Tokens) → R ts x rest → Stops p ts
  pub shorter : (ts : Tokens) (x : A) (rest : Tokens) → R ts x rest → length rest < length ts
  pub absent : (rest : Tokens) → Stops q rest → begin rest ≡ None
  pub weaker : (rest : Tokens) → Stops q rest → Stops p rest

-- t ⊳ A, where t begins it
pub opened_by_word : {A : Type 0} {d : ℕ} {p : Kind → Bool} {r : Reader A} {R : Rule A} (w : Word) (q : Kind → Bool) → Again A d p r R → p (kind.Word w) ≡ false → q (kind.Word w) ≡ true
    → ((rest : Tokens) → Stops q rest → Stops p rest) → Opened (Unit {0}) A d p q (word w) (λ _. r) (kind.Word w ⊳ R)
opened_by_word w q l stops goes weaker = record {
  passes = λ ts x rest h. onward (one refl refl h.1) (l.passes h.0 x rest h.2);
  at = λ ts x rest h shallow end. ((tt, h.0), rw h.1 (word_again w h.0), l.at h.0 x rest h.2 (shallow_after (one refl refl h.1) _ shallow) end);
  begins = λ ts x rest h. rw h.1 stops;
  shorter = λ ts x rest h. let a : length ts ≡ suc (length h.0) = ap length h.1 in let b = no_longer (l.passes h.0 x rest h.2) in omega arith;
  absent = λ rest h. no_word q w goes rest h;
  weaker = weaker;
}

pub opened_by_comma : {A : Type 0} {d : ℕ} {p : Kind → Bool} {r : Reader A} {R : Rule A} (q : Kind → Bool) → Again A d p r R → p COMMA ≡ false → q COMMA ≡ true
    → ((rest : Tokens) → Stops q rest → Stops p rest) → Opened (Unit {0}) A d p q (symbol s.Comma) (λ _. r) (COMMA ⊳ R)
opened_by_comma q l stops goes weaker = record {
  passes = λ ts x rest h. onward (one refl refl h.1) (l.passes h.0 x rest h.2);
  at = λ ts x rest h shallow end. ((tt, h.0), rw h.1 (symbol_again s.Comma h.0), l.at h.0 x rest h.2 (shallow_after (one refl refl h.1) _ shallow) end);
  begins = λ ts x rest h. rw h.1 stops;
  shorter = λ ts x rest h. let a : length ts ≡ suc (length h.0) = ap length h.1 in let b = no_longer (l.passes h.0 x rest h.2) in omega arith;
  absent = λ rest h. no_symbol q s.Comma goes rest h;
  weaker = weaker;
}

-- A ⨾ B, where the operator A begins it and is part of the tree
pub opened_by : {O A : Type 0} {d : ℕ} {b p : Kind → Bool} {begin : Reader O} {RO : Rule O} {r : Reader A} {item : O → Reader (O × A)} {R : Rule A} (q : Kind → Bool)
    → Again O d b begin RO → ((o : O) (ts : Tokens) → item o ts ≡ made (λ x. (o, x)) r ts) → Again A d p r R
    → ((ts : Tokens) (x : A) (rest : Tokens) → R ts x rest → Stops b ts)
    → ((ts : Tokens) (o : O) (rest : Tokens) → RO ts o rest → Stops p ts × (length rest < length ts))
    → ((rest : Tokens) → Stops q rest → begin rest ≡ None) → ((rest : Tokens) → Stops q rest → Stops p rest) → Opened O (O × A) d p q begin item (RO ⨾ R)
opened_by {d} q bl same_item l starts first absent weaker = record {
  passes = λ ts x rest h. onward (bl.passes ts x.0 h.0 h.1) (l.passes h.0 x.1 rest h.2);
  at = λ ts x rest h shallow end.
      let a = l.at h.0 x.1 rest h.2 (shallow_after (bl.passes ts x.0 h.0 h.1) d shallow) end in
      ((x.0, h.0), bl.at ts x.0 h.0 h.1 shallow (starts h.0 x.1 rest h.2), same_item x.0 h.0 ∙ rw a refl);
  begins = λ ts x rest h. (first ts x.0 h.0 h.1).0;
  shorter = λ ts x rest h. let a = (first ts x.0 h.0 h.1).1 in let b = no_longer (l.passes h.0 x.1 rest h.2) in omega arith;
  absent = absent;
  weaker = weaker;
}

-- [A], where something begins A
pub maybe_again : {O A : Type 0} {d : ℕ} {p q : Kind → Bool} {begin : Reader O} {item : O → Reader A} {R : Rule A} → Opened O A d p q begin item R
    → Again (Option A) d q (maybe begin item) (Maybe R)
maybe_again {A} {d} {q} {begin} {item} {R} l = record { passes = maybe_passes R l.passes; at = at }
  where
    at : (ts : Tokens) (x : Option A) (rest : Tokens) → Maybe R ts x rest → is_shallow ts d ≡ true → Stops q rest → maybe begin item ts ≡ Some (x, rest)
    at ts None rest h shallow stops = rw (h, l.absent rest stops) refl
    at ts (Some y) rest h shallow stops = let a = l.at ts y rest h shallow (l.weaker rest stops) in rw (a.1, a.2) refl

-- the same for a list that is never empty
pub maybe_listed_again : {O A : Type 0} {d : ℕ} {p q : Kind → Bool} {begin : Reader O} {item : O → Reader (List A)} {R : Rule (List A)} → Opened O (List A) d p q begin item R
    → Again (List A) d q (maybe_listed begin item) (MaybeListed R)
maybe_listed_again {A} {d} {q} {begin} {item} {R} l = record { passes = passes; at = at }
  where
    passes : (ts : Tokens) (x : List A) (rest : Tokens) → MaybeListed R ts x rest → Passes ts rest
    passes ts [] rest h = same h
    passes ts (y ∷ ys) rest h = l.passes ts (y ∷ ys) rest h

    at : (ts : Tokens) (x : List A) (rest : Tokens) → MaybeListed R ts x rest → is_shallow ts d ≡ true → Stops q rest → maybe_listed begin item ts ≡ Some (x, rest)
    at ts [] rest h shallow stops = rw (h, l.absent rest stops) refl
    at ts (y ∷ ys) rest h shallow stops = let a = l.at ts (y ∷ ys) rest h shallow (l.weaker rest stops) in rw a.1 a.2

-- ---- repeated parts

not_full : {X : Type 0} (limit : Option ℕ) (before : List X) (x : X) (xs : List X) → Within limit (length (before ++ x ∷ xs)) → is_full limit (length before) ≡ false
not_full None before x xs h = refl
not_full (Some m) before x xs h = elim (leb_tells (m - 1) (length before)) [
  | inl t ↦ absurd (let l = length-append before (x ∷ xs) in omega (arith, t.1))
  | inr t ↦ t.0
]

module _ {O A : Type 0} {d : ℕ} {p q : Kind → Bool} {begin : Reader O} {item : O → Reader A} {R : Rule A} (limit : Option ℕ) (l : Opened O A d p q begin item R) where
  pub many_passes : (ts : Tokens) (xs : List A) (rest : Tokens) → Many R ts xs rest → Passes ts rest
  many_passes ts [] rest h = same h
  many_passes ts (x ∷ xs) rest h = onward (l.passes ts x h.0 h.1) (many_passes h.0 xs rest h.2)

  short : (xs : List A) (ts rest : Tokens) → Many R ts xs rest → length xs ≤ length ts
  short [] ts rest h = omega arith
  short (x ∷ xs) ts rest h = let a = l.shorter ts x h.0 h.1 in let b = short xs h.0 rest h.2 in omega arith

  -- what stands before the items is stopped by them
  pub many_begins : (xs : List A) (ts rest : Tokens) → Many R ts xs rest → Stops q rest → Stops p ts
  many_begins [] ts rest h stops = subst (Stops p) (flip h) (l.weaker rest stops)
  many_begins (x ∷ xs) ts rest h stops = l.begins ts x h.0 h.1

  from_again : (n : ℕ) (before xs : List A) (ts rest : Tokens) → Many R ts xs rest → is_shallow ts d ≡ true → Stops q rest → length xs ≤ n
      → Within limit (length (before ++ xs)) → many_from limit begin item n before ts ≡ Some (before ++ xs, rest)
  from_again zero before [] ts rest h shallow stops fits w = rw (append-nil, h) refl
  from_again (suc n) before [] ts rest h shallow stops fits w = rw (append-nil, h, l.absent rest stops) refl
  from_again zero before (x ∷ xs) ts rest h shallow stops fits w = absurd (omega arith)
  from_again (suc n) before (x ∷ xs) ts rest h shallow stops fits w =
      let first = l.at ts x h.0 h.1 shallow (many_begins xs h.0 rest h.2 stops) in
      let room = not_full limit before x xs w in
      let shallow_a = shallow_after (l.passes ts x h.0 h.1) d shallow in
      let fits' : length xs ≤ n = omega arith in
      let regroup = append_assoc before (x ∷ []) xs in
      let w' = subst (λ all. Within limit (length all)) (flip regroup) w in
      let more = from_again n (before ++ x ∷ []) xs h.0 rest h.2 shallow_a stops fits' w' in
      rw (first.1, room, first.2) (more ∙ ap (λ all. Some (all, rest)) regroup)

  pub repeated : (before xs : List A) (ts rest : Tokens) → Many R ts xs rest → is_shallow ts d ≡ true → Stops q rest → Within limit (length (before ++ xs))
      → many limit begin item before ts ≡ Some (before ++ xs, rest)
  repeated before xs ts rest h shallow stops w = from_again (length ts) before xs ts rest h shallow stops (short xs ts rest h) w

-- {A}
pub many_again : {O A : Type 0} {d : ℕ} {p q : Kind → Bool} {begin : Reader O} {item : O → Reader A} {R : Rule A} → Opened O A d p q begin item R
    → Again (List A) d q (many None begin item []) (Many R)
many_again l = record { passes = many_passes None l; at = λ ts xs rest h shallow stops. repeated None l [] xs ts rest h shallow stops tt }

-- A {B}, where a chain of so many B is within the limit
pub chain_again : {O A B : Type 0} {d : ℕ} {p q : Kind → Bool} {first : Reader A} {R : Rule A} {begin : Reader O} {item : O → Reader B} {R' : Rule B} (limit : Option ℕ)
    → Again A d p first R → Opened O B d p q begin item R' → Again (A × List B) d q (both first (many limit begin item [])) (Chain limit R R')
chain_again limit l m = record {
  passes = λ ts x rest h. onward (l.passes ts x.0 h.0.0 h.0.1) (many_passes limit m h.0.0 x.1 rest h.0.2);
  at = λ ts x rest h shallow stops.
      let a = l.at ts x.0 h.0.0 h.0.1 shallow (many_begins limit m x.1 h.0.0 rest h.0.2 stops) in
      let b = repeated limit m [] x.1 h.0.0 rest h.0.2 (shallow_after (l.passes ts x.0 h.0.0 h.0.1) _ shallow) stops h.1 in
      rw (a, b) refl;
}

-- A {, A}
pub listed_again : {A : Type 0} {d : ℕ} {p : Kind → Bool} {r : Reader A} {R : Rule A} (q : Kind → Bool) → Again A d p r R → p COMMA ≡ false → q COMMA ≡ true
    → ((rest : Tokens) → Stops q rest → Stops p rest) → Again (List A) d q (listed r) (Listed R)
listed_again {A} {d} {p} {r} {R} q l stops goes weaker = record { passes = passes; at = at }
  where
    passes : (ts : Tokens) (xs : List A) (rest : Tokens) → Listed R ts xs rest → Passes ts rest
    passes ts [] rest h = absurd h
    passes ts (x ∷ xs) rest h = onward (l.passes ts x h.0 h.1) (many_passes None (opened_by_comma q l stops goes weaker) h.0 xs rest h.2)

    at : (ts : Tokens) (xs : List A) (rest : Tokens) → Listed R ts xs rest → is_shallow ts d ≡ true → Stops q rest → listed r ts ≡ Some (xs, rest)
    at ts [] rest h shallow end = absurd h
    at ts (x ∷ xs) rest h shallow end =
        let o = opened_by_comma q l stops goes weaker in
        let a = l.at ts x h.0 h.1 shallow (many_begins None o xs h.0 rest h.2 end) in
        let b = repeated None o (x ∷ []) xs h.0 rest h.2 (shallow_after (l.passes ts x h.0 h.1) d shallow) end tt in
        rw a b
