mod Answering
mod Forms
