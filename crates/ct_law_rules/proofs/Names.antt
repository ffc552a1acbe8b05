-- No rule reads what a message says of its database and key.
use Rattle.std.proofs.Common.{refl}
use Rattle.ct_frame.specs.declared.frame.Msg.TheVariants as msg
use Rattle.ct_rules.specs.Moves.{arrive}
use Rattle.ct_law_rules.specs.Laws.{readdressed, ReadsNoNames}

pub names_unread : ReadsNoNames
unfolding readdressed arrive
names_unread at rules n (msg.Call db key request k) d l o = refl
names_unread at rules n (msg.Recall db key least node request k) d l o = refl
names_unread at rules n (msg.Give db key rsn value) d l o = refl
names_unread at rules n (msg.Pass db key request rsn value) d l o = refl
names_unread at rules n (msg.Refuse db key request rsn) d l o = refl
names_unread at rules n (msg.Grant db key request rsn value) d l o = refl
names_unread at rules n (msg.Done db key node request) d l o = refl
names_unread at rules n (msg.Revoke db key rsn) d l o = refl
names_unread at rules n (msg.RevokeAck db key rsn) d l o = refl
names_unread at rules n (msg.VStore db key rsn) d l o = refl
names_unread at rules n (msg.VStored db key rsn) d l o = refl
names_unread at rules n (msg.VDelete db key rsn) d l o = refl
names_unread at rules n (msg.VDeleted db key rsn) d l o = refl
names_unread at rules n _ d l o = refl
