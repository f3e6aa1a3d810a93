-- Ways   what each stage hands on
pub mod Ways
