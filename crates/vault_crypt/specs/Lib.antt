pub mod VaultFile
