-- Replies of one line.
use Rattle.std.proofs.Common.{◌≡◌, ℕ, List, [], ◌∷◌, ◌++◌, refl}
use Rattle.std.proofs.lemmas.List.{append-nil}
use Rattle.nqs_types.specs.declared.event.Reply.{Reply}
use Rattle.nqs_types.specs.declared.event.Reply.TheVariants as reply
use Rattle.nqs_rules.specs.Text.{Text}
use Rattle.nqs_rules.specs.Transcript.{reply_text}
use Rattle.nqs_query.specs.Replies.{reply_line}

-- a reply that isn't a list is one line with its end
pub one_line : (site : List Text) (r : Reply) → ((ls : List (List ℕ)) → r ≡ reply.Lines ls → ⊥) → reply_text site r ≡ reply_line site r ++ 10 ∷ []
one_line site (reply.Submitted id queue) no_list = append-nil (reply_line site (reply.Submitted id queue) ++ 10 ∷ [])
one_line site (reply.Deleted id) no_list = append-nil (reply_line site (reply.Deleted id) ++ 10 ∷ [])
one_line site (reply.Signalled id) no_list = append-nil (reply_line site (reply.Signalled id) ++ 10 ∷ [])
one_line site reply.Done no_list = append-nil (reply_line site reply.Done ++ 10 ∷ [])
one_line site (reply.Refused r) no_list = append-nil (reply_line site (reply.Refused r) ++ 10 ∷ [])
one_line site (reply.Lines ls) no_list = absurd (no_list ls refl)
one_line site (reply.UnreadLine f) no_list = append-nil (reply_line site (reply.UnreadLine f) ++ 10 ∷ [])
one_line site (reply.UnreadWords f) no_list = append-nil (reply_line site (reply.UnreadWords f) ++ 10 ∷ [])
