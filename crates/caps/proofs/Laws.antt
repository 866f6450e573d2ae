-- Rise: grades that rise have a bound. Caps: the caps.
pub mod Rise
pub mod Caps
