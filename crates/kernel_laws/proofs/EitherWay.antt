-- Two frames of different zones in one second: by the law of their commands, where both have room for their responses.
use Prim.Native.Nat.{ℕ}
use mathlib.Core.Logic.{◌≢◌}
use mathlib.Core.Path.{◌≡◌, refl, sym, ap, ◌∙◌}
use mathlib.Core.List.{List}
use lib.ListN.{length}
use Rattle.wire_messages.specs.declared.Request.{Request}
use Rattle.wire_requests.specs.Requests.{read_request}
use Rattle.wire_requests.specs.declared.reading.Reading.{Reading}
use Rattle.device_store.specs.Sizes.{words}
use Rattle.device_store.specs.Words.{settings_of}
use Rattle.device_holds.specs.Holds.{situation_of, values_at}
use Rattle.device_calls.specs.Commands.{command_number, command_answer}
use Rattle.kernel.specs.Frame.{response_to, obeyed_by}
use Rattle.kernel_laws.proofs.Others.{others-number, either_order, command_length, command_settings}
use Rattle.kernel_laws.specs.Sent.{Sent, sent_number, behind, Roomy}
use Rattle.kernel_laws.specs.SameSecond.{TwoControllers, AnyTwo, StatusByContent, response_with, values_behind, OnlyValuesDiffer, LastShown}
use Rattle.kernel_laws.proofs.Roomy.{status_of, number_is, behind-is}

-- what two frames read as
module _ (ws : List ℕ) (z y t : ℕ) (size : length ws ≡ words) (apart : z ≢ y) where
  status_left : (o p : Reading) → status_of (obeyed_by ws y t p) z t o ≡ status_of ws z t o
  unfolding status_of obeyed_by
  status_left (Reading.Refused n) p = refl
  status_left (Reading.Unserved i) p = refl
  status_left (Reading.Is r) (Reading.Refused n) = refl
  status_left (Reading.Is r) (Reading.Unserved i) = refl
  status_left (Reading.Is r) (Reading.Is q) = others-number ws z y t r.command q.command size apart

  obeyed-either : (o p : Reading) → obeyed_by (obeyed_by ws y t p) z t o ≡ obeyed_by (obeyed_by ws z t o) y t p
  unfolding obeyed_by
  obeyed-either (Reading.Refused n) p = refl
  obeyed-either (Reading.Unserved i) p = refl
  obeyed-either (Reading.Is r) (Reading.Refused n) = refl
  obeyed-either (Reading.Is r) (Reading.Unserved i) = refl
  obeyed-either (Reading.Is r) (Reading.Is q) = either_order ws z y t r.command q.command size apart

  command_left : (r : Request) (p : Reading) → command_number (obeyed_by ws y t p) z t r.command ≡ command_number ws z t r.command
  unfolding status_of
  command_left r p = status_left (Reading.Is r) p

obeyed-length : (ws : List ℕ) (z t : ℕ) (o : Reading) → length (obeyed_by ws z t o) ≡ length ws
unfolding obeyed_by
obeyed-length ws z t (Reading.Refused n) = refl
obeyed-length ws z t (Reading.Unserved i) = refl
obeyed-length ws z t (Reading.Is r) = command_length ws z t r.command

obeyed-settings : (ws : List ℕ) (z t : ℕ) (o : Reading) → settings_of (obeyed_by ws z t o) ≡ settings_of ws
unfolding obeyed_by
obeyed-settings ws z t (Reading.Refused n) = refl
obeyed-settings ws z t (Reading.Unserved i) = refl
obeyed-settings ws z t (Reading.Is r) = command_settings ws z t r.command

-- the frames
pub behind-length : (ws : List ℕ) (t : ℕ) (f : Sent) → Roomy f → length (behind ws t f) ≡ length ws
behind-length ws t f h = ap (λ (l : List ℕ). length l) (behind-is ws t f h) ∙ obeyed-length ws f.zone t (read_request f.bytes)

module _ (ws : List ℕ) (t : ℕ) (f g : Sent) (size : length ws ≡ words) (apart : f.zone ≢ g.zone) (h : Roomy f) (k : Roomy g) where
  -- another zone's frame before it leaves a frame's number alone
  pub number-left : sent_number (behind ws t g) t f ≡ sent_number ws t f
  number-left =
      number_is (behind ws t g) t f h
      ∙ ap (λ (l : List ℕ). status_of l f.zone t (read_request f.bytes)) (behind-is ws t g k)
      ∙ status_left ws f.zone g.zone t size apart (read_request f.bytes) (read_request g.bytes)
      ∙ sym (number_is ws t f h)

  pub behind-both : behind (behind ws t g) t f ≡ obeyed_by (obeyed_by ws g.zone t (read_request g.bytes)) f.zone t (read_request f.bytes)
  behind-both =
      behind-is (behind ws t g) t f h
      ∙ ap (λ (l : List ℕ). obeyed_by l f.zone t (read_request f.bytes)) (behind-is ws t g k)

pub any-two : AnyTwo
any-two ws t f g size apart h k =
    record {
      states =
          behind-both ws t g f size (λ e. apart (sym e)) k h
          ∙ sym (obeyed-either ws f.zone g.zone t size apart (read_request f.bytes) (read_request g.bytes))
          ∙ sym (behind-both ws t f g size apart h k);
      first = sym (number-left ws t f g size apart h k);
      second = number-left ws t g f size (λ e. apart (sym e)) k h;
    }

pub two-controllers : TwoControllers
two-controllers ws t f g p = any-two ws t f g p.device p.zones p.first.room p.second.room

-- a frame's number, by what its command tests
tested : (vs ws : List ℕ) (z t : ℕ) (o : Reading)
    → ((r : Request) → command_number vs z t r.command ≡ command_number ws z t r.command) → status_of vs z t o ≡ status_of ws z t o
unfolding status_of
tested vs ws z t (Reading.Refused n) e = refl
tested vs ws z t (Reading.Unserved i) e = refl
tested vs ws z t (Reading.Is r) e = e r

pub status_by_content : StatusByContent
unfolding command_number
status_by_content vs ws t f a h =
    number_is vs t f h
    ∙ tested vs ws f.zone t (read_request f.bytes) (λ r. rw (a.clock, a.settings, a.override, a.member, a.up))
    ∙ sym (number_is ws t f h)

-- a response but for its values
pub only-values_differ : OnlyValuesDiffer
unfolding response_to response_with command_answer
only-values_differ ws t f g r size apart k =
    record {
      first = refl;
      second =
          let p = read_request g.bytes in
          rw (behind-is ws t g k, command_left ws f.zone g.zone t size apart r p, obeyed-settings ws g.zone t p);
    }

-- the values in a response are those of the device behind its frame
shown-behind : (ws : List ℕ) (t : ℕ) (f : Sent) (r : Request) → Roomy f → read_request f.bytes ≡ Reading.Is r
    → values_behind ws f.zone t r ≡ values_at (situation_of (behind ws t f)) t
unfolding obeyed_by
shown-behind ws t f r h e =
    ap (λ (l : List ℕ). values_at (situation_of l) t) (sym (behind-is ws t f h ∙ ap (obeyed_by ws f.zone t) e))

pub last-shown : LastShown
last-shown ws t f g p =
    shown-behind (behind ws t f) t g p.second.request p.second.room p.second.reads
    ∙ ap (λ (l : List ℕ). values_at (situation_of l) t) (two-controllers ws t f g p).states
    ∙ sym (shown-behind (behind ws t g) t f p.first.request p.first.room p.first.reads)
