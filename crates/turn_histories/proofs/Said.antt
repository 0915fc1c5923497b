-- What a session was asked, by what is told of a history.
use Rattle.std.proofs.Common.{◌≡◌, ◌∙◌, ℕ, ◌==◌, Bool, true, false, not, ◌&&◌, ◌||◌, if◌then◌else◌, List, [], ◌∷◌, ◌++◌, map, refl, sym, ap, append-nil, append_assoc, Ok, Err}
use Rattle.std.specs.List.{list_all}
use Rattle.session_definitions.specs.Asked.{Asked}
use Rattle.session_definitions.specs.Run as runs
use Rattle.session_definitions.specs.Run.{Moment}
use Rattle.session_definitions.specs.Turns.{Exchange, exchange, exchange_in, exchanges_in, is_end_of}
use Rattle.shared.specs.declared.event.Act.{Act}
use Rattle.shared.specs.declared.event.Act.TheVariants.{Connects, Refused, Says, Ends}
use Rattle.shared.specs.History.{asked_of, told_by, told_of}
use Rattle.turn_histories.proofs.Cuts.{events_in, told_in}

-- what an act says of the session of this number
abbrev pub said_in : ℕ → Act → List Exchange
said_in id (Connects i) = []
said_in id (Refused refusal) = []
said_in id (Says i asked reply) = if i == id then exchange (asked_of asked) reply ∷ [] else []
said_in id (Ends i) = []

-- what acts say of it, the latest first
abbrev pub all_said : ℕ → List Act → List Exchange
all_said id [] = []
all_said id (act ∷ acts) = all_said id acts ++ said_in id act

pub said-append : (id : ℕ) (xs ys : List Act) → all_said id (xs ++ ys) ≡ all_said id ys ++ all_said id xs
said-append id [] ys = sym (append-nil (all_said id ys))
said-append id (act ∷ xs) ys = ap (λ l. l ++ said_in id act) (said-append id xs ys) ∙ append_assoc (all_said id ys) (all_said id xs) (said_in id act)

-- whether it is the end of it
abbrev pub ends_in : ℕ → Act → Bool
ends_in id (Ends i) = i == id
ends_in id (Connects i) = false
ends_in id (Refused refusal) = false
ends_in id (Says i asked reply) = false

-- none of these is
abbrev pub NoneEnds : ℕ → List Act → Type 0
NoneEnds id [] = Unit {0}
NoneEnds id (act ∷ acts) = (ends_in id act ≡ false) × NoneEnds id acts

none_ends_parts : (id : ℕ) (xs ys : List Act) → NoneEnds id (xs ++ ys) → NoneEnds id xs × NoneEnds id ys
none_ends_parts id [] ys h = (tt, h)
none_ends_parts id (act ∷ xs) ys h = let rest = none_ends_parts id xs ys h.1 in ((h.0, rest.0), rest.1)

-- ---- calls and flushes

abbrev pub is_shared_event : runs.Event → Bool
is_shared_event e = runs.is_call e || runs.is_flush e

abbrev pub AllShared : List Moment → Type 0
AllShared [] = Unit {0}
AllShared (m ∷ ms) = (is_shared_event m.event ≡ true) × AllShared ms

both : (a b : Bool) → (a && b) ≡ true → (a ≡ true) × (b ≡ true)
both true b e = (refl, e)
both false b e = cc

pub all_shared : (moments : List Moment) → list_all is_shared_event (events_in moments) ≡ true → AllShared moments
all_shared [] e = tt
all_shared (m ∷ ms) e = let parts = both (is_shared_event m.event) (list_all is_shared_event (events_in ms)) e in (parts.0, all_shared ms parts.1)

pub shared_part : (later earlier : List Moment) → AllShared (later ++ earlier) → AllShared later
shared_part [] earlier h = tt
shared_part (m ∷ later) earlier h = (h.0, shared_part later earlier h.1)

one_said : (id : ℕ) (e : runs.Event) → is_shared_event e ≡ true → exchange_in id e ≡ all_said id (told_of e)
one_said id (runs.Event.Makes (Ok s)) is = refl
one_said id (runs.Event.Makes (Err refusal)) is = refl
one_said id (runs.Event.Calls s (Asked.Text text) reply effect) is = refl
one_said id (runs.Event.Calls s (Asked.Query text) reply effect) is = refl
one_said id (runs.Event.Calls s (Asked.Rows count) reply effect) is = refl
one_said id (runs.Event.Calls s Asked.Close reply effect) is = refl
one_said id (runs.Event.Calls s (Asked.Insert table rows) reply effect) is = absurd (cc is)
one_said id (runs.Event.Drops s) is = refl
one_said id (runs.Event.Flushes left) is = refl
one_said id (runs.Event.SetsPieces pieces) is = refl
one_said id (runs.Event.FailsToClose refusal) is = refl
one_said id runs.Event.Reopens is = refl

pub exchanges_told : (id : ℕ) (moments : List Moment) → AllShared moments → exchanges_in id moments ≡ all_said id (told_in moments)
exchanges_told id [] all = refl
exchanges_told id (m ∷ ms) all =
    ap (λ l. l ++ exchanges_in id ms) (one_said id m.event all.0) ∙ ap (λ l. all_said id (told_of m.event) ++ l) (exchanges_told id ms all.1)
    ∙ sym (said-append id (told_in ms) (told_of m.event))

one_stands : (id : ℕ) (e : runs.Event) → is_shared_event e ≡ true → NoneEnds id (told_of e) → not (is_end_of id e) ≡ true
one_stands id (runs.Event.Makes made) is none = refl
one_stands id (runs.Event.Calls s asked reply effect) is none = refl
one_stands id (runs.Event.Drops s) is none = ap not none.0
one_stands id (runs.Event.Flushes left) is none = refl
one_stands id (runs.Event.SetsPieces pieces) is none = refl
one_stands id (runs.Event.FailsToClose refusal) is none = absurd (cc is)
one_stands id runs.Event.Reopens is none = absurd (cc is)

both_true : (a b : Bool) → a ≡ true → b ≡ true → (a && b) ≡ true
both_true a b x y = ap (λ c. c && b) x ∙ y

pub stands_told : (id : ℕ) (moments : List Moment) → AllShared moments → NoneEnds id (told_in moments) → list_all (λ (m : Moment). not (is_end_of id m.event)) moments ≡ true
stands_told id [] all none = refl
stands_told id (m ∷ ms) all none =
    let parts = none_ends_parts id (told_in ms) (told_of m.event) none in
    both_true (not (is_end_of id m.event)) (list_all (λ (x : Moment). not (is_end_of id x.event)) ms) (one_stands id m.event all.0 parts.1) (stands_told id ms all.1 parts.0)
