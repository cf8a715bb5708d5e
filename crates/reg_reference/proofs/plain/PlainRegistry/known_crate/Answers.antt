use Rattle.reg_reference.proofs.Words.{◌≡◌, Bool, true, false, cond, refl, sym, ◌∙◌, ap, ◌&&◌, Ok, Err, is_name, G8, Text, Registry}
use Rattle.reg_reference.proofs.Words.{exists, registry_of}
use Rattle.reg_reference.proofs.Joined.{read_none, read_some}
use Rattle.reg_reference.proofs.plain.PlainRegistry.known_crate.Goals as goal

known : (named there : Bool) (n m : Text) → named ≡ true → there ≡ true → m ≡ n → Ok m ≡ cond (named && there) (Ok n) (Err G8)
known named there n m x y z = rw (x, y, z) refl

unknown : (named there : Bool) (n : Text) → there ≡ false → Err G8 ≡ cond (named && there) (Ok n) (Err G8)
unknown true there n y = rw y refl
unknown false there n y = refl

unnamed : (named there : Bool) (n : Text) → named ≡ false → Err G8 ≡ cond (named && there) (Ok n) (Err G8)
unnamed named there n x = rw x refl

pub returns-then-exists : goal.returns-then-exists
returns-then-exists c =
    let s : Registry = registry_of c.args.self.now in
    let n : Text = c.args.name.now in
    let read = read_some (is_name n) n c.in-Some.name c.in-Some.ensures in
    known (is_name n) (exists s n) n c.in-Some.name read.0 (sym (ap (exists s) read.1) ∙ sym c.exists.ensures ∙ c.if-exists.true) read.1

pub returns-else-exists : goal.returns-else-exists
returns-else-exists c =
    let s : Registry = registry_of c.args.self.now in
    let n : Text = c.args.name.now in
    let read = read_some (is_name n) n c.in-Some.name c.in-Some.ensures in
    unknown (is_name n) (exists s n) n (sym (ap (exists s) read.1) ∙ sym c.exists.ensures ∙ c.if-exists.false)

pub returns-in-None : goal.returns-in-None
returns-in-None c =
    let s : Registry = registry_of c.args.self.now in
    let n : Text = c.args.name.now in
    unnamed (is_name n) (exists s n) n (read_none (is_name n) n c.in-None.ensures)
