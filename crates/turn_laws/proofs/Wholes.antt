-- What the whole text could have been told in the world of the first turn.
use Rattle.std.proofs.Common.{◌≡◌, ◌<◌, ℕ, List, [], ◌∷◌, length, Some, None, Ok, refl, sym, ap, ◌∙◌, subst, arith}
use Rattle.std.specs.FinMap.{get}
use Rattle.std.specs.Prelude.{Contains, IsSorted}
use Rattle.sqlval.specs.Value.{Row}
use Rattle.lexer.specs.Token.{Bytes}
use Rattle.ast.specs.declared.statement.Statement.TheVariants as asks
use Rattle.denote.specs.Answer.{Answers, by_keys}
use Rattle.denote.specs.Bag.{Permutes, HasSame}
use Rattle.denote.specs.Outcome.{OrderedOutcome}
use Rattle.denote.specs.Query.{denotes}
use Rattle.denote.specs.declared.fault.Fault.{Fault}
use Rattle.replies.specs.declared.reply.Reply.TheVariants as says
use Rattle.operator_laws.proofs.Permuting.{Permutes-sym}
use Rattle.session_definitions.specs.Cursor.{IsAtEnd}
use Rattle.session_definitions.specs.Effect.{Effect, after}
use Rattle.session_definitions.specs.Refusals.{refusal_of}
use Rattle.session_definitions.specs.Rules.{Rules}
use Rattle.session_definitions.specs.Run.{Moment}
use Rattle.session_definitions.specs.Statements.{IsSameOutcome, Queries}
use Rattle.session_definitions.specs.Step.{Replies}
use Rattle.session_definitions.specs.Transactions.{active, with_unnamed}
use Rattle.session_definitions.specs.World.{World}
use Rattle.turn_laws.proofs.Slots.{get_here}
use Rattle.turn_laws.proofs.Taking.{Opened, cursor_at, found, slot}
use Rattle.turn_laws.specs.Answered.{CouldBeTold, IsAnswered}

none_of_the_same : {A : Type 0} (xs ys : List A) → HasSame xs ys → xs ≡ [] → ys ≡ []
none_of_the_same xs [] same none = refl
none_of_the_same {A} xs (y ∷ ys) same none =
    let c : Contains xs y = (same y).1 (0, omega arith, refl) in
    let long : length xs ≡ 0 = ap (length {A = A}) none in
    let below : c.0 < length xs = c.1 in
    absurd (omega arith)

-- what a cursor has given when it is at its end answers the query
answers_query : (o p : OrderedOutcome) (rows : List Row) → IsSameOutcome o p
    → IsAtEnd (record { outcome = o; given = rows }) → Answers (Ok rows) p
answers_query o p rows same end = (
  none_of_the_same o.unordered.faults p.unordered.faults same.unordered.faults end.clean,
  Permutes.goes_on (Permutes-sym o.unordered.rows p.unordered.rows same.unordered.rows) end.all.bag,
  subst (λ keys. IsSorted (by_keys keys) rows) same.keys (end.all.sorted end.clean),
)

module _ (rules : Rules) (s : ℕ) (text : Bytes) (moments : List Moment) (o : Opened rules s text moments) where
  pub answered : (rows : List Row) → IsAtEnd (cursor_at rules s text moments o rows)
      → (end : World) → get end.sessions s ≡ Some (slot rules s text moments o None)
      → IsAnswered rules s text moments (says.Rows rows) end
  answered rows ended end stands = record {
    whole = record {
      turn = o.turn;
      left = after o.turn.first.before s o.session (Effect.Becomes (active o.session (found rules s text moments o)));
      told = (
        Effect.Becomes (active o.session (found rules s text moments o)),
        record {
          session = o.session;
          stands = o.stood;
          replies = Replies.carried_out (asks.Query o.x) o.read
              (Queries.gives o.query rows o.means
              (answers_query o.outcome (denotes (found rules s text moments o).working o.query) rows o.same ended) refl refl);
          leaves = refl;
        },
      );
    };
    same = stands
        ∙ ap (λ c. Some (active o.session (with_unnamed (found rules s text moments o) c))) (sym o.free)
        ∙ sym (get_here o.turn.first.before.sessions s (active o.session (found rules s text moments o)));
  }

  pub faulted : (fault : Fault) → Contains o.outcome.unordered.faults fault
      → CouldBeTold rules s text moments (says.Refused (refusal_of fault))
  faulted fault may = record {
    turn = o.turn;
    left = o.turn.first.before;
    told = (
      Effect.Nothing,
      record {
        session = o.session;
        stands = o.stood;
        replies = Replies.carried_out (asks.Query o.x) o.read
            (Queries.raises o.query fault o.means ((o.same.unordered.faults fault).0 may) (record { says_so = refl; leaves_all = refl }));
        leaves = refl;
      },
    );
  }
