use Rattle.std.proofs.Common.{Some, ap, ◌∙◌, sym}
use Rattle.std.specs.declared.net.ip_addr.IpAddr.TheVariants as Ip
use Rattle.ct_values.specs.declared.address.Address.TheVariants.{V4, V6}
use Rattle.ct_values.proofs.Addresses.{same_value, no_address}
use Rattle.ct_values.proofs.Reading.{read_v4, read_v6, read_none}
use Rattle.ct_values.proofs.address.read_leniently.Goals as goal

pub returns-in-Ok-V4 : goal.returns-in-Ok-V4
returns-in-Ok-V4 c =
    let word = c.args.word.now in
    let read = rw c.in-Ok-V4.field-0-is at c.in-Ok-V4.ensures in
    record {
      exact = ap (λ n. Some (V4 n)) c.to_bits.ensures ∙ sym (read_v4 word c.in-Ok-V4.ip read);
      only = λ a fits same. ap Some (ap V4 c.to_bits.ensures ∙ same_value word (Ip.V4 c.in-Ok-V4.ip) read a fits same);
    }

pub returns-in-Ok-V6 : goal.returns-in-Ok-V6
returns-in-Ok-V6 c =
    let word = c.args.word.now in
    let read = rw c.in-Ok-V6.field-0-is at c.in-Ok-V6.ensures in
    record {
      exact = ap (λ n. Some (V6 n)) c.to_bits-in-Ok-V6.ensures ∙ sym (read_v6 word c.in-Ok-V6.ip read);
      only = λ a fits same. ap Some (ap V6 c.to_bits-in-Ok-V6.ensures ∙ same_value word (Ip.V6 c.in-Ok-V6.ip) read a fits same);
    }

pub returns-in-Err : goal.returns-in-Err
returns-in-Err c = record {
  exact = sym (read_none c.args.word.now c.in-Err.ensures);
  only = λ a fits same. absurd (no_address c.args.word.now c.in-Err.ensures a same);
}
