-- While a caller has a session, nobody else asks it or ends it.
use Rattle.std.proofs.Common.{◌≡◌, ◌∙◌, ℕ, ◌==◌, Bool, true, false, if◌then◌else◌, List, [], ◌∷◌, ◌++◌, Some, None, refl, sym, ap, append-nil, arith}
use Rattle.std.proofs.lemmas.Bool.Decides.{nat_tests}
use Rattle.replies.specs.declared.reply.Reply.{Reply}
use Rattle.session_definitions.specs.Turns.{exchange}
use Rattle.shared.specs.declared.event.Act.{Act}
use Rattle.shared.specs.declared.event.Act.TheVariants.{Connects, Refused, Says, Ends}
use Rattle.shared.specs.declared.event.Event.{Event}
use Rattle.shared.specs.declared.event.Question.{Question}
use Rattle.shared.specs.History.{AreOwnBehind, IsOwn, acts_of, asked_of, calls_by, given, holder_of, kept, moved}
use Rattle.shared.proofs.Histories.{holder_snoc, same}
use Rattle.turn_histories.proofs.Said.{NoneEnds, all_said, ends_in, said_in}

-- each of these calls asks the session of this number
abbrev pub AskOnly : ℕ → List Event → Type 0
AskOnly id [] = Unit {0}
AskOnly id (e ∷ es) = ((asked : Question) × (reply : Reply) × (e.act ≡ Says id asked reply)) × AskOnly id es

-- what is said of the session in all these calls is what is said in those, and it does not end
pub record Only (id : ℕ) (all mine : List Event) : Type 0 where
  pub said : all_said id (acts_of all) ≡ all_said id (acts_of mine)
  pub stands : NoneEnds id (acts_of all)

-- a call of somebody else
pub record Beside (id who k : ℕ) (before : List Event) (act : Act) : Type 0 where
  pub said : said_in id act ≡ []
  pub stands : ends_in id act ≡ false
  pub holds : moved id k act (holder_of id before) ≡ Some who

other_one : (who k : ℕ) → (k == who) ≡ false → Some who ≡ Some k → ⊥
other_one who k apart e =
    let is : k ≡ who = cc in
    let bad : true ≡ false = sym (same k) ∙ ap (λ x. k == x) is ∙ apart in cc bad

nobody_is : (who : ℕ) → None ≡ Some who → ⊥
nobody_is who e = cc e

beside : (id who k : ℕ) (before : List Event) (act : Act) → (k == who) ≡ false → holder_of id before ≡ Some who → IsOwn before k act → Beside id who k before act
beside id who k before (Connects i) apart holds own = record { said = refl; stands = refl; holds = go (i == id) refl }
  where
    go : (b : Bool) → (i == id) ≡ b → given b (Some k) (holder_of id before) ≡ Some who
    go true e = let is : i ≡ id = grind (arith, nat_tests) in absurd (nobody_is who (sym own ∙ ap (λ x. holder_of x before) is ∙ holds))
    go false e = holds
beside id who k before (Refused refusal) apart holds own = record { said = refl; stands = refl; holds = holds }
beside id who k before (Says i asked reply) apart holds own = record { said = go (i == id) refl; stands = refl; holds = holds }
  where
    go : (b : Bool) → (i == id) ≡ b → (if b then exchange (asked_of asked) reply ∷ [] else []) ≡ []
    go true e = let is : i ≡ id = grind (arith, nat_tests) in absurd (other_one who k apart (sym holds ∙ ap (λ x. holder_of x before) (sym is) ∙ own))
    go false e = refl
beside id who k before (Ends i) apart holds own = record { said = refl; stands = free; holds = ap (λ b. given b None (holder_of id before)) free ∙ holds }
  where
    go : (b : Bool) → (i == id) ≡ b → b ≡ false
    go true e = let is : i ≡ id = grind (arith, nat_tests) in absurd (other_one who k apart (sym holds ∙ ap (λ x. holder_of x before) (sym is) ∙ own))
    go false e = refl

    free : (i == id) ≡ false
    free = go (i == id) refl

holds_on : (id who : ℕ) (before : List Event) (e : Event) → moved id e.who e.act (holder_of id before) ≡ Some who → holder_of id (before ++ e ∷ []) ≡ Some who
holds_on id who before e h = holder_snoc id None before e ∙ h

-- one call more, its own or of somebody else, by those behind it
only_more : (who id : ℕ) (before : List Event) (e : Event) (es : List Event) → IsOwn before e.who e.act → holder_of id before ≡ Some who
    → (holder_of id (before ++ e ∷ []) ≡ Some who → AskOnly id (calls_by who es) → Only id es (calls_by who es))
    → (b : Bool) → (e.who == who) ≡ b → AskOnly id (kept b e (calls_by who es)) → Only id (e ∷ es) (kept b e (calls_by who es))
only_more who id before e es own holds further true is asks =
    let act : e.act ≡ Says id asks.0.0 asks.0.1 = asks.0.2 in
    let rest = further (holds_on id who before e (ap (λ a. moved id e.who a (holder_of id before)) act ∙ holds)) asks.1 in
    record { said = ap (λ l. l ++ said_in id e.act) rest.said; stands = (ap (ends_in id) act, rest.stands) }
only_more who id before e es own holds further false apart asks =
    let b = beside id who e.who before e.act apart holds own in
    let rest = further (holds_on id who before e b.holds) asks in
    record {
      said = ap (λ l. l ++ said_in id e.act) rest.said ∙ ap (λ l. all_said id (acts_of (calls_by who es)) ++ l) b.said
          ∙ append-nil (all_said id (acts_of (calls_by who es)));
      stands = (b.stands, rest.stands);
    }

pub only : (who id : ℕ) (before rest : List Event) → AreOwnBehind before rest → holder_of id before ≡ Some who → AskOnly id (calls_by who rest) → Only id rest (calls_by who rest)
only who id before [] own holds asks = record { said = refl; stands = tt }
only who id before (e ∷ es) own holds asks =
    only_more who id before e es own.0 holds (λ held more. only who id (before ++ e ∷ []) es own.1 held more) (e.who == who) refl asks
